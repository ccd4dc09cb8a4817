-- Times of a chart: the bit patterns of f64. `ticks` of floats has their exact sizes.
-- Assumes nothing.
use Rattle.std.specs.Prelude.{ℕ, ◌*◌, ◌^◌, Bool, false, pos, Float}
use Rattle.std.specs.Float.{inf, fin, binary64}
use Rattle.std.specs.Float.Ieee.{of_bits}
use Rattle.model.specs.Limits.{latest_end}
use Rattle.floats.specs.Range.{in_range}

-- the f64 of a bit pattern
abbrev pub time : ℕ → Float
time b = of_bits binary64 b

-- from 0 up, which a NaN, an infinity and negative zero are not
unfoldable pub is_time : Float → Bool
is_time x = in_range (fin false 0 (pos 0)) (inf false) x

-- the latest end of a note, in ticks
abbrev pub latest : ℕ
latest = latest_end * 2 ^ 1074
