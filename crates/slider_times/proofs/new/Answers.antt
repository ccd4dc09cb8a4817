-- `slider_times::new` meets its contract. Assumes nothing.
use Rattle.mania.specs.PathObject.{new, span_length}
use Rattle.slider_times.proofs.new.Goals as goal

pub returns : goal.returns
unfolding new span_length
returns c = simp (c.first_flags.ensures, c.span_length.ensures, c.head_sound.ensures, c.end_time-end.ensures, c.start_time-start.ensures)
