-- `walk::beginning` meets its contract. Assumes nothing.
use lib.Ieee.{round, of_bits}
use Rattle.mania.specs.Convert.{beginning}
use Rattle.walk.specs.Kept.{walk_of}
use Rattle.walk.proofs.beginning.Goals as goal

pub returns : goal.returns
unfolding walk_of beginning round of_bits
returns c = rw c.new-density.ensures
