-- How the values that a rule takes divide: those of each search, and those taken outside every search. Assumes nothing.
use Rattle.std.specs.Prelude.{ℕ, zero, suc, ◌+◌, max, Bool, List, [], ◌∷◌, if◌then◌else◌}
use Rattle.rules.specs.Rule.{Rule, give, refuse, draw, draw_until}

-- how many values each search took, in order, also one that was cut short; and how many were taken outside every search
pub record Ledger : Type 0 where
  pub searches : List ℕ
  pub outside : ℕ

abbrev pub nothing : Ledger
nothing = record { searches = []; outside = 0 }

-- a search of n values, and then this ledger
abbrev pub after_search : ℕ → Ledger → Ledger
after_search n l = record { searches = n ∷ l.searches; outside = l.outside }

-- a value outside every search, and then this ledger
abbrev pub after_value : Ledger → Ledger
after_value l = record { searches = l.searches; outside = suc l.outside }

-- the ledger of a search that has taken `made` values and may take `more`, and of what goes on as k
unfoldable pub ledger_until : (ℕ → Bool) → (ℕ → ℕ → List ℕ → Ledger) → ℕ → ℕ → List ℕ → Ledger
ledger_until test k zero made vs = after_search made nothing
ledger_until test k (suc more) made [] = after_search made nothing
ledger_until test k (suc more) made (v ∷ vs) =
    let here = after_search (suc made) (k v (suc made) vs) in
    let later = ledger_until test k more (suc made) vs in
    if test v then here else later

-- the ledger of a rule on a list of values
unfoldable pub ledger : {P R A : Type 0} → Rule P R A → List ℕ → Ledger
unfolding ledger_until
ledger (give a) vs = nothing
ledger (refuse r) vs = nothing
ledger (draw p k) [] = nothing
ledger (draw p k) (v ∷ vs) = after_value (ledger (k v) vs)
ledger (draw_until p limit r test k) vs = ledger_until test (λ v n. ledger (k v n)) limit 0 vs

unfoldable pub sum : List ℕ → ℕ
sum [] = 0
sum (n ∷ ns) = n + sum ns

-- 0 where there is none
unfoldable pub largest : List ℕ → ℕ
largest [] = 0
largest (n ∷ ns) = max n (largest ns)

-- the most values that one search took
abbrev pub longest : {P R A : Type 0} → Rule P R A → List ℕ → ℕ
longest m vs = largest (ledger m vs).searches
