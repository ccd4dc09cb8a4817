-- `slider_patterns::one_or_two` meets its contract. Assumes nothing.
use lib.Ieee.{round, of_bits}
use Rattle.mania.specs.PathObject.{one_or_two}
use Rattle.slider_patterns.proofs.one_or_two.Goals as goal

pub returns : goal.returns
unfolding one_or_two round of_bits
returns c = c.get_random_note_count.ensures
