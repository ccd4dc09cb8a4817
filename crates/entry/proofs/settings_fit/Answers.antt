-- `entry::settings_fit` meets its contract, by those of the range tests. Assumes nothing.
use lib.Ieee.{round, of_bits}
use Rattle.mania.specs.Single.{settings_fit, allowed_difficulty}
use Rattle.entry.proofs.settings_fit.Goals as goal

pub returns : goal.returns
unfolding settings_fit allowed_difficulty round of_bits
returns c = rw (c.in_range-a.ensures, c.is_finite-b.ensures)
