-- `density::node_time` meets its contract. Assumes nothing.
use mathlib.Core.Path.{refl}
use Rattle.mania.specs.Convert.{node_time}
use Rattle.density.proofs.node_time.Goals as goal

pub returns : goal.returns
unfolding node_time
returns c = refl
