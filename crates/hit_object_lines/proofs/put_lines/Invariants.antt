use lib.ListN.{take}
use Rattle.chart.specs.Chart.{notes_in}
use Rattle.text.specs.Laws.{Wrote}
use Rattle.hit_object_lines.specs.Lines.{chart_lines}
use Rattle.hit_object_lines.proofs.put_lines.Given as goal

abbrev pub invariant-loop-i : goal.invariant-loop-i
invariant-loop-i l = Wrote l.initial.s 0 (chart_lines l.score.columns (take l.i (notes_in l.score.notes.chart.now))) l.s l.at
