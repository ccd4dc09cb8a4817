use Prim.Native.Nat.{ℕ, ◌+◌, ◌-◌, ◌*◌, ◌^◌, ◌<◌}
use Rattle.random.specs.Play.{on}
use Rattle.mania.specs.PathObject.{add_stair}
use Rattle.pattern.specs.Answers.{pattern}
use Rattle.slider_notes.specs.Words.{of_word}
use Rattle.slider_notes.proofs.Loops.{At}
use Rattle.slider_notes.proofs.add_stair.Given as goal

abbrev pub invariant-loop : goal.invariant-loop
invariant-loop l =
    (l.time + (l.turns.n - l.counter) * l.turns.g.length < 2 ^ 26) × At l.turns.g.columns l.initial.words l.words (l.initial.p.count + l.turns.n) (l.turns.n - l.counter) l.c l.p (λ (k : ℕ). on (add_stair l.turns.g k l.time l.c l.up (pattern of_word l.words l.p)) l.d) (l.turns.n - l.counter) (on (add_stair l.turns.g l.turns.n l.turns.from l.turns.first l.rising (pattern of_word l.initial.words l.initial.p)) l.d)
