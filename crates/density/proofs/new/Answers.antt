-- `density::new` meets its contract. Assumes nothing.
use mathlib.Core.Path.{refl}
use lib.Ieee.{of_bits, of_int, round}
use Rattle.mania.specs.LimitedQueue.{unknown_density}
use Rattle.density.specs.Queued.{queued}
use Rattle.density.proofs.new.Goals as goal

pub returns : goal.returns
unfolding queued unknown_density of_bits of_int round
returns c = refl
