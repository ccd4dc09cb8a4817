-- `hit_object::cycles` meets its contract: the code is the definition. Assumes nothing.
use Rattle.mania.specs.HitObject.{cycles, alone}
use Rattle.hit_object.proofs.cycles.Goals as goal

pub returns : goal.returns
unfolding cycles alone
returns c = rw (c.has_type-has.ensures, c.column_count-alone.ensures.0)
