-- `slider_times::can_generate_two_notes` meets its contract. Assumes nothing.
use Rattle.mania.specs.PathObject.{two_notes}
use Rattle.slider_times.proofs.can_generate_two_notes.Goals as goal

pub returns : goal.returns
unfolding two_notes
returns c = simp (c.has_flag-head.ensures, c.has_flag-own.ensures, c.has_type-low.ensures)
