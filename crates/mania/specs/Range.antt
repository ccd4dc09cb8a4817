-- What a generator asks of an object's fields: a start that is not too late, and not too many repeats. Assumes nothing.
use Rattle.std.specs.Prelude.{◌≤◌}
use Rattle.model.specs.Limits.{most_repeats, latest_start}
use Rattle.floats.specs.Laws.Values.{UpTo}
use Rattle.model.specs.declared.Kind.{Kind}
use Rattle.model.specs.declared.Kind.TheVariants.{Circle, Slider, Spinner, Hold}
use Rattle.model.specs.declared.Object.{Object}

-- of a slider, its repeats
abbrev pub FewRepeats : Kind → Type 0
FewRepeats Circle = Unit {0}
FewRepeats (Slider repeats distance sound) = repeats ≤ most_repeats
FewRepeats (Spinner duration) = Unit {0}
FewRepeats (Hold duration) = Unit {0}

pub record InRange (o : Object) : Type 0 where
  pub start : UpTo latest_start o.start
  pub repeats : FewRepeats o.kind
