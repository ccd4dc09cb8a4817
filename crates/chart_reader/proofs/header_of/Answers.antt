-- `chart_reader::header_of` meets its contract. Each early return names the test that fails (`head_refused`); where all pass, they are the header's (`head_decided`).
-- Assumes nothing.
use mathlib.Core.Path.{◌≡◌, refl, sym, ap, ◌∙◌}
use Prim.Native.Nat.{◌/◌}
use lib.ListN.{get_or}
use borrow.Author.Tests.{lt-leb, ne_eqb, eq-eqb}
use Rattle.chart.specs.Layout.{version_number}
use Rattle.chart.specs.Chart.{head_tests, columns_of, count_of}
use Rattle.chart.specs.Laws.Reader.{head_refused, head_decided}
use borrow.Author.Rules.{rules}
use Rattle.chart_reader.proofs.header_of.Goals as goal

pub returns-then-chart-lt-HEADER_SIZE : goal.returns-then-chart-lt-HEADER_SIZE
unfolding head_tests
returns-then-chart-lt-HEADER_SIZE c = rw (← head_refused _ 0 (lt-leb 8 _ c.if-chart-lt-HEADER_SIZE.true)) refl

pub returns-then-chart-from : goal.returns-then-chart-from
unfolding head_tests
returns-then-chart-from c =
    rw (← head_refused _ 1 (ne_eqb _ _ (λ e. c.if-chart-from.true (e ∙ sym (c.from.ensures ∙ ap version_number c.version_of-version.ensures))))) refl

pub returns-then-columns-lt1 : goal.returns-then-columns-lt1
unfolding head_tests columns_of
returns-then-columns-lt1 c = rw (← head_refused _ 2 (lt-leb 1 _ c.if-columns-lt1.true)) refl

pub returns-then-columns-gt9 : goal.returns-then-columns-gt9
unfolding head_tests columns_of
returns-then-columns-gt9 c = rw (← head_refused _ 3 (lt-leb _ 9 c.if-columns-gt9.true)) refl

pub returns-then-chart-place : goal.returns-then-chart-place
unfolding head_tests count_of
returns-then-chart-place c =
    rw (← head_refused _ 4 (ne_eqb _ _ (rw (c.place.ensures.0, c.get-notes.ensures.0, c.version_of-version.ensures) at c.if-chart-place.true))) refl

pub returns : goal.returns
unfolding columns_of count_of
returns c = let v = c.version_of-version.ensures in
    let number = c.from.ensures ∙ ap version_number v in
    let first : get_or c.args.chart.now 0 0 / 16 ≡ c.from.result = search rules in
    let size = rw (c.place.ensures.0, c.get-notes.ensures.0, v) at c.if-chart-place.false in
    let okay = sym (head_decided c.args.chart.now (search rules) (first ∙ number) (search rules) (search rules)) ∙ eq-eqb _ _ size in
    rw (okay, v, c.get-notes.ensures.0, c.draws_in.ensures, c.from-2.ensures) refl
