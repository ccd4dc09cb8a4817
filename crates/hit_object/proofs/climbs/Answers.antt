-- `hit_object::climbs` meets its contract: the code is the definition. Assumes nothing.
use Rattle.mania.specs.HitObject.{alone}
use Rattle.hit_object.proofs.climbs.Goals as goal

pub returns : goal.returns
unfolding alone
returns c = rw (c.has_type.ensures, c.column_count.ensures.0)
