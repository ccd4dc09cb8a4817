-- `hit_object::new` meets its contract. Assumes nothing.
use Rattle.mania.specs.HitObject.{new}
use Rattle.hit_object.proofs.new.Goals as goal

pub returns : goal.returns
unfolding new
returns c = rw (c.type_by_sound-flags.ensures, c.type_by_time-by_time.ensures)
