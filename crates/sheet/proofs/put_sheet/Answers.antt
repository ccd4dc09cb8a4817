-- `sheet::put_sheet` meets its contract: the reader's answer says whether there is a chart, and its columns and notes (`known`). Assumes nothing.
use mathlib.Core.Path.{refl, ◌∙◌}
use Rattle.std.proofs.lemmas.Result.{err_from_is_err_and}
use Rattle.chart.specs.Bytes.{Bytes}
use Rattle.chart.specs.Chart.{reading}
use Rattle.chart.specs.Laws.Reader.{refused_none, refused_broken}
use Rattle.sheet.specs.Sheet.{putting, sheeted}
use Rattle.sheet.specs.Laws.{Known, known}
use Rattle.sheet.proofs.put_sheet.Goals as goal
use Rattle.sheet.proofs.put_sheet.Goals.{In_ok-header}

knows : (c : In_ok-header) → Known c.args.chart.now c.in_ok-header.header.columns c.in_ok-header.header.notes
unfolding reading Bytes
knows c = known _ _ _ _ _ (λ k. (c.type_inv.chart k).fits) c.in_ok-header.ensures

pub invariant_of-sheet : goal.invariant_of-sheet
invariant_of-sheet c = record { fits = rw c.new.ensures.0 (knows (goal.at.invariant_of-sheet c).In_ok-header).fits }

pub returns : goal.returns
unfolding sheeted
returns c = c.put_read.ensures ∙ rw (c.new.ensures.0, c.new.ensures.1) ((knows (goal.at.returns c).In_ok-header).put _)

pub returns-in_err-header : goal.returns-in_err-header
unfolding sheeted putting reading
returns-in_err-header c =
    let p = err_from_is_err_and c.from_residual.result c.from_residual.ensures.1 in
    let e = c.in_err-header.ensures in
    rw (refused_none _ _ e, p.1, p.2, refused_broken _ _ e) refl
