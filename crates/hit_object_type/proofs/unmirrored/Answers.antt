-- `hit_object_type::unmirrored` meets its contract. Assumes nothing.
use lib.Ieee.{round, of_bits}
use Rattle.mania.specs.HitObject.{unmirrored}
use Rattle.hit_object_type.proofs.unmirrored.Goals as goal

pub returns : goal.returns
unfolding unmirrored round of_bits
returns c = rw (c.half.ensures, c.half-2.ensures, c.half-3.ensures)
