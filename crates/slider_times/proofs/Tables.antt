-- The caps over their whole table. Assumes nothing.
use Rattle.std.proofs.Common.{◌≡◌, ℕ, ◌<◌, ◌≤◌, List, [], ◌∷◌, map, get_or, ap, arith}
use lib.Ieee.{Float, nan}
use Rattle.floats.specs.Least.{least}
use Rattle.mania.specs.PathObject.{Chances, caps, percent, capped}
use Rattle.pattern.specs.Laws.Tables.{entry_at}
use Rattle.slider_times.specs.Chances.{caps_of}

-- the chances as a row of the table
abbrev pub row : Chances → List Float
row c = c.p2 ∷ c.p3 ∷ c.p4 ∷ []

-- the chances that a row holds
abbrev pub of_row : List Float → Chances
of_row r = record { p2 = get_or r 0 nan; p3 = get_or r 1 nan; p4 = get_or r 2 nan }

-- the rows, read as chances, are the definition's
pub caps_at : (n : ℕ) → n ≤ 9 → of_row (get_or (map row caps) n []) ≡ caps_of n
unfolding caps_of caps
caps_at n h =
    let k : n < 10 = omega arith in
    ap of_row (entry_at row caps n (percent 100 100 100) [] k)

pub capped_is : (columns : ℕ) (c k : Chances) → k ≡ caps_of columns
    → record { p2 = least c.p2 k.p2; p3 = least c.p3 k.p3; p4 = least c.p4 k.p4 } ≡ capped columns c
unfolding capped caps_of
capped_is columns c k e = rw e
