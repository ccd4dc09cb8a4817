-- Document 02's two sums, computed: a separation whose squares sum to 400 − 2^−15 counts as 20, and one of 400 − 2^−14 as less. `single a b` is the f32
-- nearest to a / b. Assumes nothing.
use mathlib.Core.Path.{◌≡◌, refl}
use mathlib.Core.Bool.{true, false}
use lib.Ieee.{Float, binary32, add, mul}
use Rattle.model.specs.declared.Kind.TheVariants.{Circle}
use Rattle.model.specs.declared.Object.{Object}
use Rattle.mania.specs.declared.Stair.TheVariants.{Up}
use Rattle.mania.specs.declared.PrevValues.{PrevValues}
use Rattle.mania.specs.Steps.{single, double}
use Rattle.mania.specs.HitObject.{near}
use Rattle.mania.proofs.Computing.{computing}

-- an object at 0 and 0, and after it a circle at 12 and y
abbrev before : PrevValues
before = record { time = double 0 1; position = record { x = single 0 1; y = single 0 1 }; mask = 0; last = 0; stair = Up }

abbrev circle_at : Float → Object
circle_at y = record { position = record { x = single 12 1; y = y }; start = double 140 1; sound = 0; kind = Circle }

abbrev sum_of : Float → Float
sum_of y = add binary32 (mul binary32 (single 12 1) (single 12 1)) (mul binary32 y y)

-- 16 − 2^−20, and the f32 before it, 16 − 2^−19
abbrev at20 : Float
at20 = single 16777215 1048576

abbrev below20 : Float
below20 = single 8388607 524288

sum_at_20 : sum_of at20 ≡ single 13107199 32768
unfolding computing
sum_at_20 = refl

counts_as_20 : near before (circle_at at20) ≡ false
unfolding computing
counts_as_20 = refl

sum_below_20 : sum_of below20 ≡ single 6553599 16384
unfolding computing
sum_below_20 = refl

counts_as_less : near before (circle_at below20) ≡ true
unfolding computing
counts_as_less = refl
