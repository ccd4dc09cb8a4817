-- `slider_times::adjusted_beat` meets its contract. Assumes nothing.
use lib.Ieee.{round, of_bits}
use Rattle.mania.specs.PathObject.{adjusted_beat}
use Rattle.slider_times.proofs.adjusted_beat.Goals as goal

pub returns-then-as_beat : goal.returns-then-as_beat
unfolding adjusted_beat round of_bits
returns-then-as_beat c = simp (c.if-as_beat.true, c.f32_to_f64_with_nan.ensures, c.clamp-x.ensures, c.narrow.ensures)

pub returns-else-as_beat : goal.returns-else-as_beat
unfolding adjusted_beat round of_bits
returns-else-as_beat c = simp c.if-as_beat.false
