use mathlib.Core.Path.{◌≡◌}
use lib.ListN.{length}
use Rattle.walk.specs.Steps.{InForceOf}
use Rattle.walk.proofs.Loop.{At}
use Rattle.walk.proofs.walk_objects.Given as goal

abbrev pub invariant-loop-i : goal.invariant-loop-i
invariant-loop-i l =
    At l.points l.list.s.now l.initial.chart l.chart l.g l.list.at l.list.count l.initial.rest l.w l.here l.rest l.i × InForceOf l.points l.g l.c × (length l.chart ≡ length l.initial.chart) × (length l.words ≡ length l.initial.words) × (length l.spare ≡ length l.initial.spare)
