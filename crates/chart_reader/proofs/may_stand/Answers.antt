-- `chart_reader::may_stand` meets its contract. Each early return names the test that fails (`note_refused`); where all but the last pass, that one decides (`note_decided`).
-- Assumes nothing.
use borrow.Author.Rules.{rules}
use mathlib.Core.Path.{◌≡◌, sym, ◌∙◌}
use mathlib.Core.Bool.{true}
use lib.Dec.{leb}
use borrow.Author.Tests.{le-ltb, lt-leb, lt-ltb, le-leb, ltb-true, ltb-false}
use Rattle.chart.specs.Order.{rank}
use Rattle.chart.specs.Laws.Times.{time_above, time_below}
use Rattle.chart.specs.Chart.{note_tests}
use Rattle.chart.specs.Laws.Reader.{note_refused, note_decided}
use Rattle.chart_reader.proofs.may_stand.Goals as goal

pub returns-then-n-columns : goal.returns-then-n-columns
unfolding note_tests
returns-then-n-columns c = note_refused _ _ _ 0 (le-ltb _ _ c.if-n-columns.true)

pub returns-then-n-ge-INFINITY_BITS : goal.returns-then-n-ge-INFINITY_BITS
unfolding note_tests
returns-then-n-ge-INFINITY_BITS c = note_refused _ _ _ 1 (time_above _ c.if-n-ge-INFINITY_BITS.true)

pub returns-then-n-ge-INFINITY_BITS-2 : goal.returns-then-n-ge-INFINITY_BITS-2
unfolding note_tests
returns-then-n-ge-INFINITY_BITS-2 c = note_refused _ _ _ 2 (time_above _ c.if-n-ge-INFINITY_BITS-2.true)

pub returns-then-precedes : goal.returns-then-precedes
unfolding note_tests
returns-then-precedes c =
    let a = c.args in
    note_refused _ _ _ 3 (lt-leb (rank a.last) (rank a.n) (ltb-true (rank a.n) (rank a.last) (sym c.precedes.ensures ∙ c.if-precedes.true)))

pub returns-then-not-lasting : goal.returns-then-not-lasting
unfolding note_tests
returns-then-not-lasting c = note_refused _ _ _ 4 (sym c.lasting.ensures ∙ c.if-not-lasting.true)

pub returns : goal.returns
returns c =
    let a = c.args in
    let ordered : leb (rank a.last) (rank a.n) ≡ true =
    le-leb (rank a.last) (rank a.n) (ltb-false (rank a.n) (rank a.last) (sym c.precedes.ensures ∙ c.if-precedes.false)) in
    c.within.ensures
    ∙ note_decided a.columns (rank a.last) a.n (lt-ltb a.n.column a.columns (search rules)) (time_below a.n.start (search rules)) (time_below a.n.duration (search rules)) ordered
    (sym c.lasting.ensures ∙ c.if-not-lasting.false)
