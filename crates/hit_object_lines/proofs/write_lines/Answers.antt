-- `hit_object_lines::write_lines` meets its contract. Assumes nothing.
use mathlib.Core.Path.{refl}
use native.Mathlib.Omega.{arith}
use Rattle.std.proofs.lemmas.Result.{err_from_is_err_and}
use Rattle.chart.specs.Chart.{reading}
use Rattle.chart.specs.Laws.Reader.{refused_broken}
use Rattle.hit_object_lines.specs.Laws.Chart.{read_notes_law, read_refused}
use Rattle.hit_object_lines.proofs.write_lines.Goals as goal

pub returns-in_err-header : goal.returns-in_err-header
unfolding reading
returns-in_err-header c =
    let p = err_from_is_err_and c.from_residual.result c.from_residual.ensures.1 in
    let e = c.in_err-header.ensures in
    rw (read_refused c.args.chart.now c.args.text.now _ e, p.1, p.2) (record { result_value = rw (refused_broken _ _ e) refl; text_after = refl })

pub overflow_cast-score : goal.overflow_cast-score
overflow_cast-score c =
    let n = c.in_ok-header.header in
    let is = read_notes_law c.args.chart.now c.args.text.now n.version n.columns n.notes n.draws c.in_ok-header.ensures in
    omega (arith, is.1.0)

pub invariant_of-score : goal.invariant_of-score
invariant_of-score c =
    let n = c.in_ok-header.header in
    let is = read_notes_law c.args.chart.now c.args.text.now n.version n.columns n.notes n.draws c.in_ok-header.ensures in
    record { some_columns = is.0.some_columns; ok = rw c.new.ensures.0 is.0.ok }

pub returns : goal.returns
returns c =
    let n = c.in_ok-header.header in
    let is = read_notes_law c.args.chart.now c.args.text.now n.version n.columns n.notes n.draws c.in_ok-header.ensures in
    rw (is.1.1, ← c.new.ensures.0) c.write_notes.ensures
