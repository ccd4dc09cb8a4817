-- The number of an object's kind, as its first field has it. Assumes nothing.
use Rattle.std.specs.Prelude.{ℕ}
use Rattle.record_object.specs.declared.Shape.{Shape}
use Rattle.record_object.specs.declared.Shape.TheVariants.{Circle, Slider, Spinner, Hold}

abbrev pub number : Shape → ℕ
number Circle = 0
number Slider = 1
number Spinner = 2
number Hold = 3
