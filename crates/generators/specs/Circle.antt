-- What the generator of a circle asks, and what it makes. Assumes nothing.
use Rattle.std.specs.Prelude.{ℕ, ◌≤◌, List}
use Rattle.random.specs.Play.{on}
use Rattle.random.specs.declared.Draws.{Draws}
use Rattle.mania.specs.HitObject.{generate}
use Rattle.pattern.specs.Answers.{Generates}
use Rattle.circle_notes.specs.Answers.{circle_at}
use Rattle.hit_object.specs.declared.ready.ReadyCircle.{ReadyCircle}
use Rattle.generators.specs.Answers.{End}

-- what it asks, of n lent words: the type of `ready` says the rest
abbrev pub Asks : ℕ → Type 0
Asks n = 16 ≤ n

-- from the draws d the rule ends with e, and the words are as `exit`
abbrev pub Makes : ReadyCircle → Draws → List ℕ → End → Type 0
Makes ready d exit e = Generates (circle_at ready.circle.g.start) exit (on (generate ready.circle.g) d) 14 e
