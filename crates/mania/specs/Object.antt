-- The rule of one object, for the walk and for the single-object entry. Assumes nothing.
use Rattle.std.specs.Prelude.{ℕ}
use Rattle.rules.specs.Refusal.{ObjectRule}
use Rattle.mania.specs.declared.Facts.{Facts}
use Rattle.mania.specs.declared.PrevValues.{PrevValues}
use Rattle.model.specs.declared.Object.{Object}
use Rattle.model.specs.declared.Kind.{Kind}
use Rattle.model.specs.declared.Kind.TheVariants.{Circle, Slider, Spinner, Hold}
use Rattle.mania.specs.Made.{Made}
use Rattle.mania.specs.HitObject as HitObject
use Rattle.mania.specs.PathObject as PathObject
use Rattle.mania.specs.EndTimeObject as EndTimeObject

-- by the object's kind, as `convert` goes
unfoldable pub by_kind : Facts → PrevValues → ℕ → Object → Kind → ObjectRule Made
by_kind f v columns o Circle = HitObject.generate (HitObject.new f v columns o)
by_kind f v columns o (Slider repeats distance sound) = PathObject.generate (PathObject.new f v columns o repeats distance sound)
by_kind f v columns o (Spinner duration) = EndTimeObject.generate v columns o duration
by_kind f v columns o (Hold duration) = EndTimeObject.generate v columns o duration

-- the facts in force, the previous values, the column count and the object
unfoldable pub object : Facts → PrevValues → ℕ → Object → ObjectRule Made
object f v columns o = by_kind f v columns o o.kind
