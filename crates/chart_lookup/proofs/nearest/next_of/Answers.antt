-- `chart_lookup::nearest::next_of` meets its contract. The invariant: no note before the i-th is of the column.
-- Assumes nothing.
use mathlib.Core.Path.{◌≡◌, sym, ap, ◌∙◌}
use Prim.Native.Nat.{◌≤◌, ◌<◌}
use native.Mathlib.Omega.{arith}
use lib.ListN.{length, get_or}
use Rattle.chart.specs.declared.Note.{Note}
use Rattle.chart.specs.Chart.{notes_in, blank}
use Rattle.chart_lookup.proofs.Laws.Nearest.{one_more}
use Rattle.chart_lookup.proofs.nearest.next_of.Goals as goal

pub loop-i-init : goal.loop-i-init
loop-i-init c = λ j h k e. absurd (omega arith)

pub returns-then-note-column : goal.returns-then-note-column
returns-then-note-column c = let below : c.loop-i.i < length (notes_in c.args.notes.chart.now) = omega (arith, c.args.notes.counted, c.loop-i-test.true) in (
  below,
  record { late = omega arith; within = omega (arith, below); none_before = c.loop-i.invariant; there = λ h. sym (ap (λ (m : Note). m.column) c.note.ensures) ∙ c.if-note-column.true },
)

pub loop-i-preserved : goal.loop-i-preserved
loop-i-preserved c = let ns = notes_in c.args.notes.chart.now in
    λ j h k. one_more (λ q. c.args.from ≤ q → (get_or ns q blank).column ≡ c.args.column → ⊥) c.loop-i.i (λ q b a. c.loop-i.invariant q a b)
    (λ a e. c.if-note-column.false (ap (λ (m : Note). m.column) c.note.ensures ∙ e)) j k h

pub returns : goal.returns
returns c = record {
  late = omega (arith, c.args.notes.counted);
  within = omega arith;
  none_before = λ j h k. c.loop-i.invariant j h (omega (arith, c.args.notes.counted));
  there = λ h. absurd (omega arith);
}
