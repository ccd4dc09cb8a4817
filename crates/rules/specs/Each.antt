-- What holds of each element of a list, and of every two. Assumes nothing.
use Rattle.std.specs.Prelude.{List, [], ◌∷◌}

abbrev pub Each : {A : Type 0} → (A → Type 0) → List A → Type 0
Each P [] = Unit {0}
Each P (x ∷ xs) = P x × Each P xs

-- R holds of every two of them, at two places
abbrev pub EveryTwo : {A : Type 0} → (A → A → Type 0) → List A → Type 0
EveryTwo R [] = Unit {0}
EveryTwo R (a ∷ xs) = Each (R a) xs × EveryTwo R xs
