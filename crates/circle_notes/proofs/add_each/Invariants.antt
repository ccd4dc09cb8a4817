use mathlib.Core.Path.{◌≡◌}
use Prim.Native.Nat.{ℕ, ◌-◌, ◌≤◌, ◌<◌}
use lib.ListN.{length}
use Rattle.random.specs.Play.{on}
use Rattle.mania.specs.HitObject.{add_each}
use Rattle.pattern.specs.Answers.{pattern}
use Rattle.circle_notes.specs.Answers.{circle_at, each}
use Rattle.circle_notes.proofs.add_each.Given as goal

abbrev pub invariant-loop-i : goal.invariant-loop-i
invariant-loop-i g l =
    (length l.words ≡ length l.initial.words) × (l.p.count ≤ l.i)
    × ((t : ℕ → ℕ) → ((i c : ℕ) → i < l.circle.g.columns → goal.F-post g l.to i c → c ≡ t i) → on (add_each l.circle.g t (l.circle.g.columns - l.i) l.i (pattern (circle_at l.circle.g.start) l.words l.p)) l.rest ≡ on (each l.circle.g t) l.initial.rest)
