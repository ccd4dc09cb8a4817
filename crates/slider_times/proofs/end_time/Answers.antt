-- `slider_times::end_time` meets its contract. Assumes nothing.
use lib.Ieee.{round, of_bits}
use Rattle.mania.specs.PathObject.{end_time}
use Rattle.slider_times.proofs.end_time.Goals as goal

pub returns : goal.returns
unfolding end_time round of_bits
returns c = simp (c.to_count.ensures, c.start_time-start.ensures, c.distance_of.ensures, c.adjusted_beat-beat.ensures)
