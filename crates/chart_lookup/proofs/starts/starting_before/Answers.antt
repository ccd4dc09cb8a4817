-- `chart_lookup::starts::starting_before` meets its contract. The invariant: the notes before `low` start before the pattern, those from `high` on do not. The measure is their distance.
-- Assumes nothing.
use mathlib.Core.Path.{◌≡◌}
use native.Mathlib.Nat.{le_trans, lt_of_le_of_lt}
use native.Mathlib.Omega.{arith}
use borrow.Author.Rules.{rules}
use Rattle.chart_lookup.specs.Laws.Notes.{rise}
use Rattle.chart_lookup.proofs.starts.starting_before.Goals as goal

pub loop-low-init : goal.loop-low-init
loop-low-init c = (search rules, omega (arith, c.args.notes.counted), λ j h. absurd (omega arith), λ j h k. absurd (omega (arith, c.args.notes.counted)))

pub note-requires : goal.note-requires
note-requires c = omega (arith, c.args.notes.counted, c.loop-low.invariant.0, c.loop-low.invariant.1, c.loop-low-test.true)

pub loop-low-preserved-then-note-pattern : goal.loop-low-preserved-then-note-pattern
loop-low-preserved-then-note-pattern c = let test = c.loop-low-test.true in
    let here = rw c.note.ensures at c.if-note-pattern.true in
    (search rules, c.loop-low.invariant.1, λ j h. lt_of_le_of_lt (rise c.args.notes.chart.now j _ (omega arith) (omega (arith, c.loop-low.invariant.1))) here, c.loop-low.invariant.3)

pub loop-low-preserved : goal.loop-low-preserved
loop-low-preserved c = let test = c.loop-low-test.true in
    let here = rw c.note.ensures at c.if-note-pattern.false in
    (search rules, omega (arith, c.loop-low.invariant.1), c.loop-low.invariant.2, λ j h k. le_trans here (rise c.args.notes.chart.now _ j h k))

pub returns : goal.returns
returns c = let l = c.loop-low.invariant in
    let same : c.loop-low.low ≡ c.loop-low.high = omega (arith, l.0, c.loop-low-test.false) in
    record { within = omega (arith, l.0, l.1); before = l.2; after = λ j h k. l.3 j (omega arith) k }
