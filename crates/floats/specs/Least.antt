-- The lesser, the greater and the clamped of floats that are no NaN.
-- Assumes nothing.
use Rattle.std.specs.Prelude.{cond, Float}
use Rattle.std.specs.Float.Ieee.{lt}

-- `x.min(y)`
unfoldable pub least : Float → Float → Float
least x y = cond (lt y x) y x

-- `x.max(y)`
unfoldable pub greatest : Float → Float → Float
greatest x y = cond (lt x y) y x

-- `x.clamp(low, high)`
unfoldable pub clamped : Float → Float → Float → Float
clamped low high x = cond (lt x low) low (cond (lt high x) high x)
