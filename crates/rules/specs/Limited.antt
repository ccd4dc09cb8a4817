-- The limit of a rule's searches. Assumes nothing.
use Rattle.std.specs.Prelude.{◌≡◌, ℕ, List, [], ◌∷◌}
use Rattle.rules.specs.Rule.{Rule, give, refuse, draw, draw_until}

-- every search may take `limit` values, and a refusal of which Q holds comes from a search alone
abbrev pub Limited : {P R A : Type 0} → ℕ → (R → Type 0) → Rule P R A → Type 0
Limited limit Q (give a) = Unit {0}
Limited limit Q (refuse r) = Q r → ⊥
Limited limit Q (draw p k) = (v : ℕ) → Limited limit Q (k v)
Limited limit Q (draw_until p own r test k) = (own ≡ limit) × ((v n : ℕ) → Limited limit Q (k v n))

-- the last of some numbers, d where there is none
unfoldable pub last_or : ℕ → List ℕ → ℕ
last_or d [] = d
last_or d (n ∷ ns) = last_or n ns
