-- `hit_object_lines::times::milliseconds` meets its contract. Assumes nothing.
use mathlib.Core.Path.{◌∙◌}
use native.Mathlib.Omega.{arith}
use lib.Ieee.{binary64}
use Rattle.floats.specs.Laws.Ranges.{no_nan}
use Rattle.hit_object_lines.specs.Laws.Times.{count_ms, few_ms}
use Rattle.hit_object_lines.proofs.times.milliseconds.Goals as goal

pub float_from_bits-bits : goal.float_from_bits-bits
float_from_bits-bits c = let b = c.args.bits in no_nan binary64 b (omega (arith, c.requires.is_time_law))

pub returns : goal.returns
returns c =
    let is = c.to_count.ensures ∙ count_ms c.args.bits c.requires in
    (is, rw is (few_ms c.args.bits c.requires))
