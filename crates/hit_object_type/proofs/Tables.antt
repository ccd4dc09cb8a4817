-- The chances of a circle as a row of the table, and as a record. Assumes nothing.
use mathlib.Core.Path.{◌≡◌}
use Rattle.std.specs.Prelude.{List, [], ◌∷◌, Float}
use Rattle.mania.specs.declared.CircleChances.{CircleChances}

abbrev pub row : CircleChances → List Float
row c = c.p2 ∷ c.p3 ∷ c.p4 ∷ c.p5 ∷ []

pub four : {a b c d a' b' c' d' : Float} → a ≡ a' → b ≡ b' → c ≡ c' → d ≡ d'
    → ◌≡◌ {A = CircleChances} (record { p2 = a; p3 = b; p4 = c; p5 = d }) (record { p2 = a'; p3 = b'; p4 = c'; p5 = d' })
four e f g h = rw (e, f, g, h)
