use Prim.Native.Nat.{◌+◌, ◌-◌}
use Rattle.chart_lookup.specs.Search.{run}
use Rattle.chart_lookup.specs.Laws.Places.{Wrote}
use Rattle.chart_lookup.proofs.starting.write_run.Given as goal

abbrev pub invariant-loop-k : goal.invariant-loop-k
invariant-loop-k l = Wrote (run l.first l.found) l.list l.initial.list l.k (run (l.first + l.k) (l.found - l.k))
