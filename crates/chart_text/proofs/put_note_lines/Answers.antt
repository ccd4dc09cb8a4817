-- `chart_text::put_note_lines` meets its contract. The invariant: the lines of the first i notes are stored. Assumes nothing.
use mathlib.Core.Path.{sym, ◌∙◌}
use native.Mathlib.Nat.{add-zero}
use native.Mathlib.Omega.{arith}
use lib.ListN.{get_or}
use Rattle.chart.specs.Chart.{notes_in, blank}
use Rattle.chart_text.specs.Text.{note_line}
use Rattle.chart.specs.Laws.Bytes.{splice_none}
use Rattle.text.specs.Laws.{wrote_first, wrote_next}
use Rattle.chart_text.specs.Laws.{lines_none, lines_more}
use Rattle.chart_text.proofs.put_note_lines.Goals as goal

pub loop-i-init : goal.loop-i-init
loop-i-init c =
    let a = c.args in
    let none = lines_none (notes_in a.notes.chart.now) in
    record { most = omega arith; lines = wrote_first _ (rw none (sym (splice_none a.s.now a.at (omega arith)))) (rw none (sym (add-zero a.at))) }

pub loop-i-preserved : goal.loop-i-preserved
loop-i-preserved c =
    let l = c.loop-i in
    let ns = notes_in c.args.notes.chart.now in
    let line = wrote_next (note_line (get_or ns l.i blank)) l.invariant.lines (c.put_note_line-next.ensures.s_after ∙ rw c.note-n.ensures) (c.put_note_line-next.ensures.value.0 ∙ rw c.note-n.ensures) (omega arith) in
    record { most = omega arith; lines = rw (lines_more l.i ns (omega (arith, c.args.notes.counted))) line }
