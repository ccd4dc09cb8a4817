use Prim.Native.Nat.{ℕ, ◌+◌, ◌-◌}
use Rattle.random.specs.Play.{on}
use Rattle.mania.specs.PathObject.{add_beside}
use Rattle.pattern.specs.Answers.{pattern}
use Rattle.slider_notes.specs.Words.{of_word}
use Rattle.slider_notes.proofs.Loops.{At}
use Rattle.slider_notes.proofs.add_beside.Given as goal

abbrev pub invariant-loop : goal.invariant-loop
invariant-loop l =
    At l.g.columns l.initial.words l.words (l.initial.p.count + l.n) (l.n - l.counter) l.c l.p (λ (k : ℕ). on (add_beside l.g l.hold l.time k l.c l.row (pattern of_word l.words l.p)) l.rest) (l.n - l.counter) (on (add_beside l.g l.hold l.time l.n l.first l.mask (pattern of_word l.initial.words l.initial.p)) l.initial.rest)
