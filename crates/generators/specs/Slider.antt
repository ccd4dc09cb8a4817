-- What the generator of a slider asks, and what it makes. Assumes nothing.
use Rattle.std.specs.Prelude.{ℕ, ◌≤◌, List}
use Rattle.model.specs.Limits.{most_notes}
use Rattle.random.specs.Play.{on}
use Rattle.random.specs.declared.Draws.{Draws}
use Rattle.mania.specs.PathObject.{generate}
use Rattle.pattern.specs.Answers.{Generates}
use Rattle.slider_notes.specs.Words.{note_of_word}
use Rattle.path_object.specs.declared.ready.ReadySlider.{ReadySlider}
use Rattle.generators.specs.Answers.{End}

-- what it asks beside the slider's own facts: room for an object's notes in `words` words, and the working space `spare`
abbrev pub Asks : ℕ → ℕ → Type 0
Asks words spare = (most_notes ≤ spare) × (most_notes ≤ words)

-- from the draws d the rule ends with e, and the words are as `exit`
abbrev pub Makes : ReadySlider → Draws → List ℕ → End → Type 0
Makes slider d exit e = Generates note_of_word exit (on (generate slider.g) d) most_notes e
