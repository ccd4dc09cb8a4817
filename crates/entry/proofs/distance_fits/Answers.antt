-- `entry::distance_fits` meets its contract. Assumes nothing.
use Rattle.std.proofs.Common.{rules}
use lib.Ieee.{round, of_bits}
use Rattle.mania.specs.Single.{distance_fits}
use Rattle.entry.proofs.distance_fits.Goals as goal

pub returns : goal.returns
unfolding distance_fits round of_bits
returns c = search rules
