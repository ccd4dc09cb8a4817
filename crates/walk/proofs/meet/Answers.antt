-- `walk::meet` meets its contract. Assumes nothing.
use mathlib.Core.Path.{refl}
use Rattle.density.specs.Queued.{queued}
use Rattle.walk.proofs.meet.Goals as goal

pub returns : goal.returns
unfolding queued
returns c = record { density = c.meets-density.ensures; facts = refl }
