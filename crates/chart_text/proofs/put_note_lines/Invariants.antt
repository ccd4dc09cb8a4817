use Prim.Native.Nat.{◌+◌, ◌*◌, ◌≤◌}
use lib.ListN.{take}
use Rattle.chart.specs.Chart.{notes_in}
use Rattle.chart_text.specs.Text.{note_lines}
use Rattle.text.specs.Laws.{Wrote}
use Rattle.chart_text.proofs.put_note_lines.Given as goal

abbrev pub invariant-loop-i : goal.invariant-loop-i
invariant-loop-i l =
    record {
      most : l.next ≤ l.at + 51 * l.i;
      lines : Wrote l.initial.s l.at (note_lines (take l.i (notes_in l.notes.chart.now))) l.s l.next;
    }
