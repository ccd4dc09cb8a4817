use lib.ListN.{length}
use Prim.Native.Nat.{◌-◌}
use Rattle.random.specs.Play.{on}
use Rattle.mania.specs.Pattern.{empty}
use Rattle.mania.specs.HitObject.{add_random}
use Rattle.circle_notes.proofs.Loops.{Going}
use Rattle.circle_notes.proofs.add_random.Given as goal

abbrev pub invariant-loop : goal.invariant-loop
invariant-loop l =
    Going l.circle.g l.barred (length l.initial.words) l.words l.rest l.p l.at (l.n - l.counter) (on (add_random l.circle.g l.barred l.n l.first empty) l.initial.rest)
