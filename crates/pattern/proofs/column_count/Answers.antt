-- `pattern::column_count` meets its contract. Assumes nothing.
use mathlib.Core.Path.{refl, sym}
use Rattle.pattern.proofs.Listed.{listed_count}
use Rattle.pattern.proofs.column_count.Goals as goal

pub returns : goal.returns
returns c = (refl, sym (listed_count c.args.mask c.ranges.mask.fits))
