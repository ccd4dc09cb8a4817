-- `end_time_object::lasting` meets its contract: the code is the definition. Assumes nothing.
use mathlib.Core.Path.{refl}
use Rattle.mania.specs.EndTimeObject.{lasting}
use Rattle.end_time_object.proofs.lasting.Goals as goal

pub returns : goal.returns
unfolding lasting
returns c = refl
