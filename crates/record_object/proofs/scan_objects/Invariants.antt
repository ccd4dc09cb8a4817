use Rattle.std.proofs.Common.{◌+◌, ◌-◌, ◌*◌, ◌≤◌}
use Rattle.record.specs.Layout as At
use Rattle.record_object.proofs.Scans.{Left}
use Rattle.record_object.proofs.scan_objects.Given as goal

abbrev pub invariant-loop : goal.invariant-loop
invariant-loop l = record {
  place : l.here ≤ l.list.at + At.longest * l.counter;
  few : l.long ≤ l.counter;
  left : Left l.list.s.now l.list.at l.list.count l.here l.last l.long (l.list.count - l.counter);
}
