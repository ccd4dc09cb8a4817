-- A slider in range is what the slider's generator asks for: its start is below 2 ^ 25, and its spans end by its end. Assumes nothing.
use Rattle.std.specs.Prelude.{Option, Float}
use Prim.Native.Nat.{ℕ, ◌+◌, ◌-◌, ◌≤◌}
use native.Mathlib.Nat.{div-mul-le_self}
use native.Mathlib.Omega.{arith}
use lib.Ieee.Positive.{num, den, den_pos}
use Rattle.model.specs.Limits.{most_repeats, latest_start}
use Rattle.floats.specs.Laws.Wholes.{count_le}
use Rattle.floats.specs.Laws.Values.{UpTo}
use Rattle.floats.specs.declared.Way.TheVariants.{Even}
use Rattle.model.specs.declared.Object.{Object}
use Rattle.mania.specs.declared.Facts.{Facts}
use Rattle.mania.specs.declared.PrevValues.{PrevValues}
use Rattle.mania.specs.PathObject as PathObject
use Rattle.path_object.specs.Parts.{Ready}

start_early : (o : Object) → UpTo latest_start o.start → PathObject.start_time o ≤ latest_start
unfolding PathObject.start_time
start_early o h = let x = o.start in count_le Even x (num x) (den x) latest_start (den_pos x) h.size h.high

module _ (f : Facts) (v : PrevValues) (columns : ℕ) (o : Object) (repeats : ℕ) (distance : Option Float) (node : Option ℕ) where
  pub ready : 1 ≤ columns → columns ≤ 9 → repeats ≤ most_repeats → UpTo latest_start o.start → Ready (PathObject.new f v columns o repeats distance node)
  unfolding PathObject.new PathObject.span_length
  ready low high few start = record {
    low = low;
    high = high;
    early = omega (arith, start_early o start);
    share = div-mul-le_self (PathObject.end_time f o (repeats + 1) distance - PathObject.start_time o) (repeats + 1);
    one = omega arith;
    spans = omega arith;
  }
