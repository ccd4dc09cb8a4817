-- `hit_object_type::half` meets its contract: the code is the definition. Assumes nothing.
use mathlib.Core.Path.{refl}
use lib.Ieee.{round, of_bits}
use Rattle.mania.specs.HitObject.{half}
use Rattle.hit_object_type.proofs.half.Goals as goal

pub returns : goal.returns
unfolding half round of_bits
returns c = refl
