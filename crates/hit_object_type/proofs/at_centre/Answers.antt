-- `hit_object_type::at_centre` meets its contract: the code is the definition. Assumes nothing.
use mathlib.Core.Path.{refl}
use lib.Ieee.{round, of_bits}
use Rattle.mania.specs.HitObject.{at_centre}
use Rattle.hit_object_type.proofs.at_centre.Goals as goal

pub returns : goal.returns
unfolding at_centre round of_bits
returns c = refl
