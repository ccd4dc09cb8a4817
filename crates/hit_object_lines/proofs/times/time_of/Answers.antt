-- `hit_object_lines::times::time_of` meets its contract: a whole number is no NaN. Assumes nothing.
use mathlib.Core.Path.{refl}
use native.Mathlib.Omega.{arith}
use Rattle.hit_object_lines.specs.Reading.{time_of}
use Rattle.hit_object_lines.specs.Laws.Times.{int_no_nan}
use Rattle.hit_object_lines.proofs.times.time_of.Goals as goal

pub float_to_bits-result : goal.float_to_bits-result
float_to_bits-result c = int_no_nan c.args.ms (omega arith)

pub returns : goal.returns
unfolding time_of
returns c = refl
