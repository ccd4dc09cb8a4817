-- `hit_object_type::two_or_three` meets its contract: the code is the record. Assumes nothing.
use mathlib.Core.Path.{refl}
use lib.Ieee.{round, of_bits}
use Rattle.hit_object_type.proofs.two_or_three.Goals as goal

pub returns : goal.returns
unfolding round of_bits
returns c = refl
