use mathlib.Core.Path.{◌≡◌}
use Prim.Native.Nat.{◌-◌, ◌≤◌}
use Rattle.announced.specs.Gathered.{gathered}
use Rattle.announced.proofs.gather.Given as goal

abbrev pub invariant-loop-od : goal.invariant-loop-od
invariant-loop-od l = (l.from ≤ l.od) × (l.mask ≡ gathered l.long l.objects l.low l.high l.from (l.od - l.from))
