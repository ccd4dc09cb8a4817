use mathlib.Core.Path.{◌≡◌}
use Prim.Native.Nat.{◌-◌, ◌<◌}
use lib.ListN.{drop}
use Rattle.chart.specs.Layout.{chart_size_in, column_values}
use Rattle.chart.specs.Chart.{ok_rows}
use Rattle.chart.specs.Order.{rank}
use Rattle.chart_reader.proofs.rows_ok.Given as goal

abbrev pub invariant-loop-i : goal.invariant-loop-i
invariant-loop-i l =
    (l.last.column < column_values)
    × (ok_rows l.version l.columns (rank l.last) (l.fn.header.notes - l.i) (drop (chart_size_in l.version l.i) l.chart) ≡ ok_rows l.version l.columns 0 l.fn.header.notes (drop 8 l.chart))
