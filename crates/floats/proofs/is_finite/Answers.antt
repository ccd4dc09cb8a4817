-- `floats::is_finite` meets its contract. Assumes nothing.
use Rattle.std.proofs.Common.{◌∙◌}
use Rattle.floats.specs.Laws.Ranges.{finite_is}
use Rattle.floats.proofs.is_finite.Goals as goal

pub returns : goal.returns
returns c = c.is_finite.ensures.value ∙ finite_is c.args.x
