-- `slider_notes::start_of` meets its contract. Assumes nothing.
use mathlib.Core.Path.{refl}
use Rattle.slider_notes.specs.Words.{of_word}
use Rattle.slider_notes.proofs.start_of.Goals as goal

pub returns : goal.returns
unfolding of_word
returns c = refl
