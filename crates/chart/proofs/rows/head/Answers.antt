-- `chart::rows::head` meets its contract. The head by whether the note is a hold.
-- Assumes nothing.
use mathlib.Core.Path.{refl}
use Rattle.chart.specs.Chart.{head}
use Rattle.chart.proofs.rows.head.Goals as goal
use Rattle.chart.proofs.rows.head.Goals.{then-n, else-n}

pub returns : goal.returns
unfolding head
returns c =
    elim c.if-n.branch [
      | then-n w ↦ rw (w.hold-is, w.hold_unit-hold.ensures, w.if-n.true, c.from.ensures, c.column_unit.ensures, c.from-2.ensures, c.unwrap_or.ensures, c.zero_unit.ensures) refl
      | else-n w ↦ rw (w.hold-is, w.if-n.false, c.from.ensures, c.column_unit.ensures, c.from-2.ensures, c.unwrap_or.ensures, c.zero_unit.ensures) refl
    ]
