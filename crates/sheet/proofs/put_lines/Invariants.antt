use Prim.Native.Nat.{◌*◌}
use Rattle.chart.specs.Chart.{notes_in}
use Rattle.text.specs.Laws.{Wrote}
use Rattle.sheet.specs.Layout.{line_size}
use Rattle.sheet.specs.Sheet.{lines}
use Rattle.sheet.proofs.put_lines.Given as goal

abbrev pub invariant-loop-i : goal.invariant-loop-i
invariant-loop-i l = Wrote l.initial.s 0 (lines l.sheet.columns (notes_in l.sheet.notes.chart.now) l.i) l.s (line_size * l.i)
