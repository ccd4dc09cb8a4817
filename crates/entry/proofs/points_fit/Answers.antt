-- `entry::points_fit` meets its contract, by those of the range tests. Assumes nothing.
use lib.Ieee.{round, of_bits}
use Rattle.mania.specs.Single.{points_fit}
use Rattle.entry.proofs.points_fit.Goals as goal

pub returns : goal.returns
unfolding points_fit round of_bits
returns c = rw (c.in_range-a.ensures, c.in_range-b.ensures)
