use Prim.Native.Nat.{◌≤◌}
use Rattle.record.specs.Layout as At
use Rattle.points.specs.Lasting.{Reached}
use Rattle.points.proofs.Lookups.{amount}
use Rattle.points.proofs.points_up_to.Given as goal

abbrev pub invariant-loop-number : goal.invariant-loop-number
invariant-loop-number l =
    (l.number ≤ l.list.count) × (l.width ≤ At.entry) × (l.number ≤ amount l.list.s.now l.width l.list.at l.list.count l.t) × Reached (amount l.list.s.now l.width l.list.at l.list.count) l.number l.from
