-- `pattern::room` meets its contract. Assumes nothing.
use Rattle.pattern.specs.Laws.Searches.{start_le}
use Rattle.pattern.proofs.room.Goals as goal

pub overflow_sub-deck : goal.overflow_sub-deck
overflow_sub-deck c = rw c.random_start.ensures (start_le _)
