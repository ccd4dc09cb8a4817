use Prim.Native.Nat.{◌-◌, ◌≤◌}
use Rattle.chart_lookup.specs.Search.{held_from}
use Rattle.chart_lookup.specs.Laws.Places.{Wrote}
use Rattle.chart_lookup.proofs.covering.write_covering.Given as goal

abbrev pub invariant-loop-k : goal.invariant-loop-k
invariant-loop-k l = (l.i ≤ l.end) × Wrote (held_from l.at.t l.first l.notes.chart.now) l.list l.initial.list l.k (held_from l.at.t l.i l.notes.chart.now)

abbrev pub decreases-loop-k : goal.decreases-loop-k
decreases-loop-k l = l.end - l.i
