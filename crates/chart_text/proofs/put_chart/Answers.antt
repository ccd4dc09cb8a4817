-- `chart_text::put_chart` meets its contract: the reader's answer has the numbers of the chart's first line, and says how many notes follow (`read_text`). Assumes nothing.
use mathlib.Core.Path.{refl, sym, ap, ◌∙◌}
use native.Mathlib.Omega.{arith}
use Prim.Native.Nat.{◌≤◌}
use native.Mathlib.Nat.{zero-add}
use lib.ListN.{length}
use Rattle.chart.specs.Chart.{meaning}
use Rattle.chart.specs.Laws.Bytes.{splice_none}
use Rattle.text.specs.Laws.{wrote_first, wrote_next}
use Rattle.chart_text.specs.Laws.{Text, read_text, refused_text}
use Rattle.chart_text.proofs.put_chart.Goals as goal
use Rattle.chart_text.proofs.put_chart.Goals.{In-Ok}

said : (c : In-Ok) → Text c.args.chart.now c.in-Ok.header.columns c.in-Ok.header.notes c.in-Ok.header.draws
said c =
    let n = c.in-Ok.header in read_text c.args.chart.now n.version n.columns n.notes n.draws (sym c.read.ensures ∙ ap meaning c.in-Ok.is)

pub put_head_line-at-requires : goal.put_head_line-at-requires
put_head_line-at-requires c = omega (arith, (said (goal.at.put_head_line-at-requires c).In-Ok).size, c.requires)

pub put_note_lines-requires : goal.put_note_lines-requires
put_note_lines-requires c =
    let is = said (goal.at.put_note_lines-requires c).In-Ok in
    omega (arith, is.size, c.requires, c.new.ensures.1, c.put_head_line-at.ensures.value.1, c.put_head_line-at.auto.s)

pub returns-in-Ok : goal.returns-in-Ok
returns-in-Ok c =
    let is = said (goal.at.returns-in-Ok c).In-Ok in
    let fits : c.put_note_lines.result ≤ length c.args.s.now =
    omega (arith, is.size, c.requires, c.new.ensures.1, c.put_head_line-at.ensures.value.1, c.put_note_lines.ensures.value.1) in
    let lines = wrote_next _ (wrote_first _ c.put_head_line-at.ensures.s_after c.put_head_line-at.ensures.value.0) (rw c.new.ensures.0 at c.put_note_lines.ensures.s_after) (rw c.new.ensures.0 at c.put_note_lines.ensures.value.0) fits in
    rw is.is (record { value = (lines.next ∙ zero-add _, fits); s_after = lines.bytes })

pub returns-in-Err : goal.returns-in-Err
returns-in-Err c =
    let none = refused_text c.args.chart.now _ (sym c.read.ensures ∙ ap meaning c.in-Err.is) in
    rw none (record { value = (refl, omega arith); s_after = sym (splice_none c.args.s.now 0 (omega arith)) })
