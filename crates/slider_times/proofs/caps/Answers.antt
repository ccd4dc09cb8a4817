-- `slider_times::caps` meets its contract. Assumes nothing.
use lib.Ieee.{round, of_bits}
use Rattle.mania.specs.PathObject.{caps, percent}
use Rattle.slider_times.proofs.Tables.{caps_at}
use Rattle.slider_times.proofs.caps.Goals as goal

pub returns : goal.returns
unfolding caps percent round of_bits
returns c = caps_at c.args.columns c.requires
