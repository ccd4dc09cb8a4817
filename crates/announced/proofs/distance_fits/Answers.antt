-- `announced::distance_fits` meets its contract. Assumes nothing.
use lib.Ieee.{round, of_bits}
use Rattle.mania.specs.Single as Single
use Rattle.announced.specs.Announced.{distance_fits}
use Rattle.announced.proofs.distance_fits.Goals as goal

pub returns : goal.returns
unfolding distance_fits Rattle.mania.specs.Single.distance_fits round of_bits
returns c = c.fit.ensures
