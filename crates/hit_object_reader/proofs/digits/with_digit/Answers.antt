-- `hit_object_reader::digits::with_digit` meets its contract. Assumes nothing.
use native.Mathlib.Omega.{arith}
use Rattle.hit_object_lines.specs.Reading.{with_digit}
use Rattle.hit_object_reader.specs.Laws.Parts.{digit_range}
use Rattle.hit_object_reader.proofs.digits.with_digit.Goals as goal

pub overflow_sub-c : goal.overflow_sub-c
overflow_sub-c c = (digit_range c.args.c c.requires.1).0

pub returns : goal.returns
unfolding with_digit
returns c = (omega arith, omega arith)
