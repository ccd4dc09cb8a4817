-- `chart_lookup::holds_at` meets its contract: the reader's answer says whether there is a chart; then the test of the time, and the lookup's answer.
-- Assumes nothing.
use mathlib.Core.Path.{◌≡◌, ◌∙◌}
use Rattle.std.proofs.lemmas.Result.{err_from_is_err_and}
use Rattle.rules.specs.declared.Refusal.TheVariants.{Times}
use Rattle.chart.specs.Chart.{reading}
use Rattle.chart.specs.Laws.Reader.{refused_none, refused_broken}
use Rattle.chart_lookup.specs.Lookup.{Covering, times_ok, listing, looked}
use Rattle.chart_lookup.specs.Laws.Times.{times_refused, times_taken}
use Rattle.chart_lookup.proofs.holds_at.Goals as goal

pub returns-in_err-header : goal.returns-in_err-header
unfolding listing looked reading
returns-in_err-header c =
    let p = err_from_is_err_and c.from_residual.result c.from_residual.ensures.1 in
    rw (refused_none _ _ c.in_err-header.ensures, p.1, p.2, refused_broken _ _ c.in_err-header.ensures)

pub returns-in_err-at : goal.returns-in_err-at
unfolding times_ok
returns-in_err-at c =
    let p = err_from_is_err_and c.from_residual-in_err-at.result c.from_residual-in_err-at.ensures.1 in
    let value = rw c.in_err-at.ensures.ok_part at c.in_err-at.ensures.value in
    let number : c.in_err-at.field-0.0 ≡ Times = cc in
    rw (p.1, p.2, number) (times_refused _ _ c.in_ok-header.ensures (Covering c.args.time) _ (rw c.in_err-at.ensures.ok_part at c.new.ensures))

pub returns : goal.returns
unfolding times_ok
returns c =
    let same : c.in_ok-at.at.t ≡ c.args.time = rw c.in_ok-at.ensures.ok_part at c.new.ensures in
    c.list_covering.ensures ∙ rw (c.new-2.ensures.0, same) (times_taken _ _ c.in_ok-header.ensures (Covering c.args.time) _ (rw same at c.in_ok-at.at.is_finite))
