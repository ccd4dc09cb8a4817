-- `entry::object_fits` meets its contract, by those of the functions that it calls. Assumes nothing.
use lib.Ieee.{round, of_bits}
use Rattle.mania.specs.Single.{object_fits}
use Rattle.entry.proofs.object_fits.Goals as goal

pub returns : goal.returns
unfolding object_fits round of_bits
returns c =
    rw (c.position_fits.ensures, c.in_range-start.ensures, c.kind_fits.ensures, c.position_fits-2.ensures, c.is_finite.ensures, c.is_finite-2.ensures)
