-- `sheet::put_lines` meets its contract. The invariant: the first i lines are stored. Assumes nothing.
use mathlib.Core.Path.{sym}
use Prim.Native.Nat.{◌+◌, ◌*◌}
use native.Mathlib.Omega.{arith}
use Rattle.chart.specs.Chart.{notes_in}
use Rattle.chart.specs.Laws.Bytes.{splice_none}
use Rattle.text.specs.Laws.{wrote_first, wrote_next}
use Rattle.sheet.specs.Layout.{line_size}
use Rattle.sheet.specs.Sheet.{line_at}
use Rattle.sheet.specs.Laws.{length_line, lines_none, lines_more}
use Rattle.sheet.proofs.put_lines.Goals as goal

pub loop-i-init : goal.loop-i-init
loop-i-init c =
    let a = c.args in
    let none = lines_none a.sheet.columns (notes_in a.sheet.notes.chart.now) in
    wrote_first _ (rw none (sym (splice_none a.s.now 0 (omega arith)))) (rw none)

pub loop-i-preserved : goal.loop-i-preserved
loop-i-preserved c =
    let l = c.loop-i in
    let ns = notes_in c.args.sheet.notes.chart.now in
    let size = length_line c.args.sheet.columns ns c.args.sheet.fits l.i (rw (← c.args.sheet.notes.counted) (omega (arith, c.requires.0))) in
    let more = wrote_next {next = line_size * (l.i + 1)} (line_at c.args.sheet.columns ns l.i) l.invariant c.put_line.ensures (omega (arith, size)) (omega (arith, c.requires.1)) in
    rw (lines_more c.args.sheet.columns ns l.i) more
