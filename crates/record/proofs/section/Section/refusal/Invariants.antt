use Rattle.std.proofs.Common.{◌≡◌, ◌≤◌, ◌+◌, ◌-◌, ◌*◌}
use Rattle.record.specs.Layout as At
use Rattle.record.specs.Refusal.{f64_at, entries_refusal}
use Rattle.record.specs.Section.{entry_end, entry_refusal, section_refusal}
use Rattle.record.proofs.section.Section.refusal.Given as goal

abbrev pub invariant-loop : goal.invariant-loop
invariant-loop l = record {
  place : l.here ≤ l.list.at + At.entry * l.counter;
  rest : section_refusal l.self l.list.s.now l.list.at l.list.count ≡ entries_refusal (entry_refusal l.self l.list.s.now) (entry_end l.self) (f64_at l.list.s.now) l.here l.before (l.list.count - l.counter);
}
