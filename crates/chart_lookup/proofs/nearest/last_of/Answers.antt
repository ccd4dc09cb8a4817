-- `chart_lookup::nearest::last_of` meets its contract. The invariant: no note from the i-th on is of the column.
-- Assumes nothing.
use mathlib.Core.Path.{◌≡◌, sym, ap, ◌∙◌}
use mathlib.Core.Logic.{⊎_elim}
use Prim.Native.Nat.{◌-◌, ◌≤◌, ◌<◌}
use native.Mathlib.Omega.{arith}
use Rattle.chart.specs.declared.Note.{Note}
use Rattle.chart.specs.Laws.Times.{le_or_lt}
use Rattle.chart_lookup.proofs.nearest.last_of.Goals as goal

pub loop-place-init : goal.loop-place-init
loop-place-init c = λ j h k e. absurd (omega arith)

pub note-requires : goal.note-requires
note-requires c = omega (arith, c.requires, c.loop-place.auto.place, c.loop-place-test.true)

pub returns-then-note-column : goal.returns-then-note-column
returns-then-note-column c = record {
  within = omega arith;
  none_after = λ j h k. c.loop-place.invariant j (omega arith) k;
  there = λ j e. let same : c.loop-place.place - 1 ≡ j = omega arith in
      rw same at (sym (ap (λ (m : Note). m.column) c.note.ensures) ∙ c.if-note-column.true);
}

pub loop-place-preserved : goal.loop-place-preserved
loop-place-preserved c =
    λ j h k e. ⊎_elim
    (λ (a : c.loop-place.place ≤ j). c.loop-place.invariant j a k e)
    (λ (a : j < c.loop-place.place). let same : j ≡ c.loop-place.place - 1 = omega arith in c.if-note-column.false (ap (λ (m : Note). m.column) c.note.ensures ∙ rw same at e))
    (le_or_lt c.loop-place.place j)

pub returns : goal.returns
returns c = record { within = omega arith; none_after = λ j h k. c.loop-place.invariant j (omega arith) k; there = λ j e. absurd (omega arith) }
