use Prim.Native.Nat.{ℕ, ◌+◌, ◌-◌, ◌*◌, ◌^◌, ◌<◌}
use Rattle.random.specs.Play.{on}
use Rattle.mania.specs.PathObject.{add_besides}
use Rattle.pattern.specs.Answers.{pattern}
use Rattle.slider_notes.specs.Words.{of_word}
use Rattle.slider_notes.proofs.Loops.{At}
use Rattle.slider_notes.proofs.add_besides.Given as goal

abbrev pub invariant-loop : goal.invariant-loop
invariant-loop l =
    (l.time + (l.turns.n - l.counter) * l.turns.g.length < 2 ^ 26) × At l.turns.g.columns l.initial.words l.words (l.initial.p.count + 6 * l.turns.n) (6 * (l.turns.n - l.counter)) l.c l.p (λ (k : ℕ). on (add_besides l.turns.g l.hold l.bare l.k k l.time l.c (pattern of_word l.words l.p)) l.rest) (l.turns.n - l.counter) (on (add_besides l.turns.g l.hold l.bare l.k l.turns.n l.turns.from l.turns.first (pattern of_word l.initial.words l.initial.p)) l.initial.rest)
