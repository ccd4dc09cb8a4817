-- `pattern::column` meets its contract. Assumes nothing.
use lib.Ieee.{round, of_bits}
use Rattle.mania.specs.ManiaObject.{column, width}
use Rattle.pattern.proofs.column.Goals as goal

pub returns : goal.returns
unfolding column width round of_bits
returns c = rw (c.min.ensures, c.from.ensures, c.to_count-n.ensures)
