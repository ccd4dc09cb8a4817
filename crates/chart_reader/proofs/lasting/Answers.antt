-- `chart_reader::lasting` meets its contract. A time is above 0 exactly where its bit pattern is.
-- Assumes nothing.
use mathlib.Core.Path.{sym}
use Rattle.chart.specs.Laws.Times.{ticks_positive}
use Rattle.chart.specs.Chart.{lasts}
use Rattle.chart_reader.proofs.lasting.Goals as goal

pub returns-then-hold : goal.returns-then-hold
unfolding lasts
returns-then-hold c = rw c.if-hold.true (sym (ticks_positive c.args.duration c.requires))

pub returns-else-hold : goal.returns-else-hold
unfolding lasts
returns-else-hold c = rw c.if-hold.false
