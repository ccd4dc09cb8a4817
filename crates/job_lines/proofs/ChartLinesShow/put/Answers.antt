-- `job_lines::ChartLinesShow::put` meets its contract: what was written are the lines (`wrote`), and a refusal left the text as it was (`left`). Assumes nothing.
use mathlib.Core.Path.{sym, ap, ◌∙◌}
use native.Mathlib.Nat.{zero-add}
use native.Mathlib.Omega.{arith}
use Rattle.rules.specs.Coded.{code}
use Rattle.hit_object_lines.specs.Told.{told}
use Rattle.job_lines.specs.Laws.{wrote, left}
use Rattle.job_lines.proofs.ChartLinesShow.put.Goals as goal

pub returns-in-Ok : goal.returns-in-Ok
returns-in-Ok c =
    let a = c.args in
    let w = c.write_lines in
    let g = c.in-Ok in
    let lines = wrote a.chart.now a.s.now g.size (sym w.ensures.result_value ∙ ap told g.is) in
    record { value = (lines.long, lines.within); s_after = w.ensures.text_after ∙ lines.bytes }

pub returns-in-Err : goal.returns-in-Err
returns-in-Err c =
    let w = c.write_lines in
    let g = c.in-Err in
    let put = c.put_refusal_line in
    let draws = c.draws_in.ensures in
    let refusal = left c.args.chart.now c.args.s.now (code g.refusal) (omega (arith, c.requires.chart_size.1, c.requires.s_size)) (sym w.ensures.result_value ∙ ap told g.is) in
    rw (refusal.line, ← draws, ← c.from.ensures)
    (record { value = (put.ensures.value.0 ∙ zero-add _, omega (arith, put.ensures.value.1, c.requires.s_size)); s_after = put.ensures.s_after ∙ rw (w.ensures.text_after ∙ refusal.bytes) })
