-- `hit_object_type::halved` meets its contract. Assumes nothing.
use lib.Ieee.{round, of_bits}
use Rattle.mania.specs.HitObject.{halved}
use Rattle.hit_object_type.proofs.halved.Goals as goal

pub returns : goal.returns
unfolding halved round of_bits
returns c = rw c.max.ensures
