-- `walk::span_of` meets its contract. Assumes nothing.
use Rattle.mania.specs.PathObject.{span_length}
use Rattle.walk.proofs.span_of.Goals as goal

pub returns : goal.returns
unfolding span_length
returns c = rw (← c.start_time-start.ensures, ← c.end_time-end.ensures) c.span_length.ensures
