-- `entry::position_fits` meets its contract, by those of the range tests. Assumes nothing.
use lib.Ieee.{neg, round, of_bits}
use Rattle.mania.specs.Single.{position_fits}
use Rattle.entry.proofs.position_fits.Goals as goal

pub returns : goal.returns
unfolding position_fits neg round of_bits
returns c = rw (c.in_range-a.ensures, c.in_range-b.ensures)
