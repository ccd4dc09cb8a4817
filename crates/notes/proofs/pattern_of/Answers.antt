-- `notes::pattern_of` meets its contract. Assumes nothing.
use Rattle.mania.specs.Chart.{pattern_of}
use Rattle.notes.proofs.pattern_of.Goals as goal

pub returns : goal.returns
unfolding pattern_of
returns c = rw (c.f64_to_bits_with_nan-start.ensures, c.f64_to_bits_with_nan-duration.ensures)
