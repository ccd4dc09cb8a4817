-- `hit_object::repeats` meets its contract: the code is the definition. Assumes nothing.
use Rattle.mania.specs.HitObject.{some}
use Rattle.hit_object.proofs.repeats.Goals as goal

pub returns : goal.returns
unfolding some
returns c = rw c.has_type.ensures
