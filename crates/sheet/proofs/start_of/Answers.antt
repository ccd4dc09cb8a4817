-- `sheet::start_of` meets its contract: a start below infinity's pattern is no NaN, and its floor is its whole milliseconds. Assumes nothing.
use mathlib.Core.Path.{◌∙◌}
use native.Mathlib.Omega.{arith}
use lib.Ieee.{binary64}
use Rattle.floats.specs.Laws.Ranges.{no_nan}
use Rattle.sheet.specs.Laws.{start_floor}
use Rattle.sheet.proofs.start_of.Goals as goal

pub float_from_bits-start : goal.float_from_bits-start
float_from_bits-start c = no_nan binary64 c.args.start (omega (arith, c.requires.finite))

pub returns : goal.returns
returns c = c.to_count.ensures ∙ start_floor c.args.start c.requires
