-- `chart_reader::rows_ok` meets its contract. The invariant: the rows from the i-th on pass exactly where all rows do.
-- Assumes nothing.
use mathlib.Core.Path.{sym, ◌∙◌}
use native.Mathlib.Nat.{sub-zero, le_trans, lt_trans}
use borrow.Author.Rules.{rules}
use borrow.Author.Tests.{ltb-true, eqb-true, eqb-false}
use Rattle.chart.specs.Tests.{passes}
use Rattle.chart.specs.Chart.{note_tests, ok_note}
use Rattle.chart.specs.Order.{rank}
use Rattle.chart.specs.Laws.Reader.{chart_none, chart_room, rows_end, row_zeros, row_note, row_next}
use Rattle.chart_reader.proofs.rows_ok.Goals as goal

pub loop-i-init : goal.loop-i-init
unfolding rank
loop-i-init c = (search rules, rw (sub-zero, chart_none))

pub zeros_ok-requires : goal.zeros_ok-requires
zeros_ok-requires c =
    rw c.place-at.ensures.0 (le_trans (chart_room c.args.header.version c.loop-i.i c.args.header.notes c.loop-i-test.true) c.requires.1)

pub returns-then-not-zeros_ok : goal.returns-then-not-zeros_ok
returns-then-not-zeros_ok c =
    let more = c.loop-i-test.true in
    let bad = rw c.place-at.ensures.0 at (sym c.zeros_ok.ensures ∙ c.if-not-zeros_ok.true) in
    sym (sym c.loop-i.invariant.1 ∙ row_zeros _ _ _ _ _ c.args.chart.now more (eqb-false _ 0 bad))

pub note_in-n-requires : goal.note_in-n-requires
note_in-n-requires c =
    rw c.place-at.ensures.0
    (le_trans (chart_room c.args.header.version c.loop-i.i c.args.header.notes c.loop-i-test.true) c.requires.1)

pub returns-then-not-may_stand : goal.returns-then-not-may_stand
returns-then-not-may_stand c =
    let place = c.place-at.ensures.0 in
    let more = c.loop-i-test.true in
    let bad = rw (c.note_in-n.ensures, place) at (sym c.may_stand.ensures ∙ c.if-not-may_stand.true) in
    sym (sym c.loop-i.invariant.1 ∙ row_note _ _ _ _ _ c.args.chart.now more bad)

pub loop-i-preserved : goal.loop-i-preserved
unfolding ok_note note_tests
loop-i-preserved c =
    let place = c.place-at.ensures.0 in
    let more = c.loop-i-test.true in
    let good = sym c.may_stand.ensures ∙ c.if-not-may_stand.false in
    let note = c.note_in-n.ensures in
    let here = rw (note, place) at good in
    let zeros = rw place at (sym c.zeros_ok.ensures ∙ c.if-not-zeros_ok.false) in
    let on = ltb-true c.note_in-n.result.column c.args.header.columns (passes (note_tests _ _ c.note_in-n.result) good 0) in
    (lt_trans on c.requires.0, rw (note, place) (sym (row_next _ _ _ _ _ c.args.chart.now more (eqb-true _ 0 zeros) here) ∙ c.loop-i.invariant.1))

pub returns : goal.returns
returns c =
    sym (sym c.loop-i.invariant.1 ∙ rows_end _ _ _ _ c.loop-i.i _ (search rules))
