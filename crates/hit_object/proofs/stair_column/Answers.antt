-- `hit_object::stair_column` meets its contract: the search's next column. Assumes nothing.
use Rattle.mania.specs.PatternGenerator.{next_column}
use Rattle.mania.specs.HitObject.{stair_column}
use Rattle.hit_object.proofs.stair_column.Goals as goal

pub returns : goal.returns
unfolding stair_column next_column
returns c = c.next_column.ensures
