use mathlib.Core.Path.{◌≡◌}
use Prim.Native.Nat.{◌+◌, ◌≤◌}
use lib.ListN.{length}
use Rattle.chart_lookup.specs.Search.{held_from}
use Rattle.chart_lookup.proofs.covering.count_covering.Given as goal

abbrev pub invariant-loop-i : goal.invariant-loop-i
invariant-loop-i l = (l.found ≤ l.i) × (l.found + length (held_from l.at.t l.i l.notes.chart.now) ≡ length (held_from l.at.t l.first l.notes.chart.now))
