use lib.ListN.{length}
use Prim.Native.Nat.{◌-◌}
use Rattle.random.specs.Play.{on}
use Rattle.mania.specs.Pattern.{empty}
use Rattle.mania.specs.HitObject.{add_mirrored}
use Rattle.circle_notes.proofs.Loops.{Mirroring}
use Rattle.circle_notes.proofs.add_mirrored.Given as goal

abbrev pub invariant-loop : goal.invariant-loop
invariant-loop l =
    Mirroring l.circle.g (length l.initial.words) l.words l.rest l.p l.at (l.n - l.counter) (on (add_mirrored l.circle.g l.n l.first empty) l.initial.rest)
