use mathlib.Core.Path.{◌≡◌}
use Prim.Native.Nat.{◌^◌, ◌<◌}
use lib.ListN.{drop}
use Rattle.chart.specs.Bytes.{num}
use Rattle.chart.proofs.bytes.get.Given as goal

abbrev pub invariant-loop-b : goal.invariant-loop-b
invariant-loop-b l = (l.x ≡ num l.b-index (drop l.at l.s)) × (l.x < 256 ^ l.b-index)
