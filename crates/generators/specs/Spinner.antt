-- What the generator of a spinner or a hold asks, and what it makes. Assumes nothing.
use Rattle.std.specs.Prelude.{ℕ, ◌<◌, List}
use Rattle.random.specs.Play.{on}
use Rattle.random.specs.declared.Draws.{Draws}
use Rattle.mania.specs.EndTimeObject.{generate}
use Rattle.pattern.specs.Answers.{Generates}
use Rattle.end_time_object.specs.Answers.{end_note_at}
use Rattle.end_time_object.specs.declared.generator.EndTimeObjectPatternGenerator.{EndTimeObjectPatternGenerator}
use Rattle.generators.specs.Answers.{End}

-- what it asks, of n lent words: the type of `g` says the rest
abbrev pub Asks : ℕ → Type 0
Asks n = 0 < n

-- from the draws d the rule ends with e, and the words are as `exit`
abbrev pub Makes : EndTimeObjectPatternGenerator → Draws → List ℕ → End → Type 0
Makes g d exit e = Generates (end_note_at g.o g.duration) exit (on (generate g.v g.columns g.o g.duration) d) 1 e
