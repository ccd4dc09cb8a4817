use mathlib.Core.Path.{◌≡◌}
use Prim.Native.Nat.{◌+◌, ◌*◌, ◌≤◌}
use lib.ListN.{length, drop}
use Rattle.chart.specs.Chart.{notes_in}
use Rattle.hit_object_lines.specs.Lines.{chart_lines, all_whole}
use Rattle.hit_object_lines.proofs.text_size.Given as goal

abbrev pub invariant-loop-i : goal.invariant-loop-i
invariant-loop-i l =
    record {
      most : l.size ≤ 52 * l.i;
      whole : all_whole (notes_in l.score.notes.chart.now) ≡ all_whole (drop l.i (notes_in l.score.notes.chart.now));
      bytes : length (chart_lines l.score.columns (notes_in l.score.notes.chart.now)) ≡ l.size + length (chart_lines l.score.columns (drop l.i (notes_in l.score.notes.chart.now)));
    }
