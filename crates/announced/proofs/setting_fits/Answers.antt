-- `announced::setting_fits` meets its contract. Assumes nothing.
use lib.Ieee.{round, of_bits}
use Rattle.announced.specs.Announced.{setting_fits}
use Rattle.announced.proofs.setting_fits.Goals as goal

pub returns : goal.returns
unfolding setting_fits round of_bits
returns c = c.fit.ensures
