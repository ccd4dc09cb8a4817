-- A float field: its range and its number. Assumes nothing.
use Rattle.std.specs.Prelude.{ℕ, Bool, false, cond, not, ◌&&◌, pos, ◌==◌, from_bits, Float}
use Rattle.std.specs.Float.{nan, inf, fin, Format}
use Rattle.std.specs.Float.Ieee.{nan_bits, le}
use Rattle.std.specs.Float.Ieee.Scale.{finite}

abbrev pub negative_zero : Float → Bool
negative_zero nan = false
negative_zero (inf s) = false
negative_zero (fin s m e) = s && m == 0

-- from lo to hi; a NaN, an infinity and negative zero are out of every range
unfoldable pub in_range : Float → Float → Float → Bool
in_range lo hi x = finite x && not (negative_zero x) && le lo x && le x hi

-- the bit pattern b of a field is in its range
abbrev pub within : Format → Float → Float → ℕ → Bool
within f lo hi b = in_range lo hi (from_bits f b)

-- the number of the bit pattern b; 0 for a NaN's, which lies in no range
unfoldable pub float : Format → ℕ → Float
float f b = cond (nan_bits f b) (fin false 0 (pos 0)) (from_bits f b)
