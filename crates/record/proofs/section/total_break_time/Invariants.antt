use Rattle.std.proofs.Common.{◌≡◌, false, ◌+◌, ◌-◌, ◌*◌}
use Rattle.std.specs.Float.{binary64}
use Rattle.std.specs.Float.Ieee.{round}
use Rattle.model.specs.Totals.{break_time}
use Rattle.record.specs.Layout as At
use Rattle.record.specs.Section.{breaks}
use Rattle.record.proofs.section.total_break_time.Given as goal

abbrev pub invariant-loop : goal.invariant-loop
invariant-loop l = record {
  place : l.here ≡ l.list.at + At.entry * l.counter;
  rest : break_time (round binary64 false 0 1) (breaks l.list.s.now l.list.at l.list.count) ≡ break_time l.sum (breaks l.list.s.now l.here (l.list.count - l.counter));
}
