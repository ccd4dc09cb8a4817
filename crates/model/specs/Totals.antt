-- What the conversion takes of a song's lists as a whole: breaks, first and last start, and the number of sliders and spinners.
-- Assumes nothing.
use Rattle.std.specs.Prelude.{ℕ, ◌+◌, false, List, [], ◌∷◌, Float}
use Rattle.std.specs.Float.{binary64}
use Rattle.std.specs.Float.Ieee.{round, add, sub}
use Rattle.model.specs.declared.BreakPeriod.{BreakPeriod}
use Rattle.model.specs.declared.Kind.{Kind}
use Rattle.model.specs.declared.Kind.TheVariants.{Circle, Slider, Spinner, Hold}
use Rattle.model.specs.declared.Object.{Object}

-- `total_break_time`: a break lasts end − start, summed in order from 0
unfoldable pub break_time : Float → List BreakPeriod → Float
break_time sum [] = sum
break_time sum (b ∷ bs) = break_time (add binary64 sum (sub binary64 b.end b.start)) bs

-- the start of the first object, 0 without objects
unfoldable pub first_start : List Object → Float
first_start [] = round binary64 false 0 1
first_start (o ∷ os) = o.start

-- the start of the last object, or else the one given
unfoldable pub last_start : Float → List Object → Float
last_start start [] = start
last_start start (o ∷ os) = last_start o.start os

-- one more for a slider or a spinner
unfoldable pub longer : Kind → ℕ → ℕ
longer Circle n = n
longer (Slider repeats distance sound) n = n + 1
longer (Spinner duration) n = n + 1
longer (Hold duration) n = n

-- `count_slider_or_spinner`
unfoldable pub sliders_and_spinners : List Object → ℕ
sliders_and_spinners [] = 0
sliders_and_spinners (o ∷ os) = longer o.kind (sliders_and_spinners os)
