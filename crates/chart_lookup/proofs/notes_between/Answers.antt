-- `chart_lookup::notes_between` meets its contract: the reader's answer says whether there is a chart; then each test of the times, and the lookup's answer.
-- Assumes nothing.
use mathlib.Core.Path.{◌≡◌, ◌∙◌}
use Rattle.std.proofs.lemmas.Result.{err_from_is_err_and}
use Rattle.rules.specs.declared.Refusal.TheVariants.{Times}
use Rattle.chart.specs.Chart.{reading}
use Rattle.chart.specs.Laws.Reader.{refused_none, refused_broken}
use Rattle.chart_lookup.specs.Lookup.{listing, looked}
use Rattle.chart_lookup.specs.Laws.Times.{from_off, to_off, out_of_order, in_order, times_refused, times_taken}
use Rattle.chart_lookup.proofs.notes_between.Goals as goal
use Rattle.chart_lookup.proofs.notes_between.Goals.{In_ok-first, In_ok-last}

first_is : (c : In_ok-first) → c.in_ok-first.first.t ≡ c.args.from
first_is c = rw c.in_ok-first.ensures.ok_part at c.new.ensures

last_is : (c : In_ok-last) → c.in_ok-last.last.t ≡ c.args.to
last_is c = rw c.in_ok-last.ensures.ok_part at c.new-2.ensures

pub returns-in_err-header : goal.returns-in_err-header
unfolding listing looked reading
returns-in_err-header c =
    let p = err_from_is_err_and c.from_residual.result c.from_residual.ensures.1 in
    rw (refused_none _ _ c.in_err-header.ensures, p.1, p.2, refused_broken _ _ c.in_err-header.ensures)

pub returns-in_err-first : goal.returns-in_err-first
returns-in_err-first c =
    let p = err_from_is_err_and c.from_residual-in_err-first.result c.from_residual-in_err-first.ensures.1 in
    let value = rw c.in_err-first.ensures.ok_part at c.in_err-first.ensures.value in
    let number : c.in_err-first.field-0.0 ≡ Times = cc in
    rw (p.1, p.2, number) (times_refused _ _ c.in_ok-header.ensures _ _ (from_off _ _ (rw c.in_err-first.ensures.ok_part at c.new.ensures)))

pub returns-in_err-last : goal.returns-in_err-last
returns-in_err-last c =
    let p = err_from_is_err_and c.from_residual-in_err-last.result c.from_residual-in_err-last.ensures.1 in
    let value = rw c.in_err-last.ensures.ok_part at c.in_err-last.ensures.value in
    let number : c.in_err-last.field-0.0 ≡ Times = cc in
    rw (p.1, p.2, number) (times_refused _ _ c.in_ok-header.ensures _ _ (to_off _ _ (rw c.in_err-last.ensures.ok_part at c.new-2.ensures)))

pub returns-then-last-first : goal.returns-then-last-first
returns-then-last-first c =
    let order = rw (first_is (goal.at.returns-then-last-first c).In_ok-first, last_is (goal.at.returns-then-last-first c).In_ok-last) at c.if-last-first.true in
    times_refused _ _ c.in_ok-header.ensures _ _ (out_of_order _ _ order)

pub returns : goal.returns
returns c =
    let from = first_is (goal.at.returns c).In_ok-first in
    let to = last_is (goal.at.returns c).In_ok-last in
    let taken = in_order _ _ c.in_ok-first.first.is_finite c.in_ok-last.last.is_finite c.if-last-first.false in
    c.list_starting.ensures ∙ rw (c.new-3.ensures.0, from, to) (times_taken _ _ c.in_ok-header.ensures _ _ (rw (from, to) at taken))
