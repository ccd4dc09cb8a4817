-- `chart_reader::time::within` meets its contract: the bound is the time of its bit pattern.
-- Assumes nothing.
use mathlib.Core.Path.{◌≡◌, ap, ◌∙◌}
use lib.Dec.{leb}
use native.Mathlib.Omega.{arith}
use Rattle.floats.specs.Ticks.{ticks}
use Rattle.chart.specs.Time.{time, latest}
use Rattle.chart.specs.Laws.Times.{ticks_size}
use Rattle.std.specs.Ordering.{is_le}
use Rattle.exact_times.specs.Laws.Orders.{up_to_ltb, not_ltb}
use Rattle.chart_reader.proofs.time.within.Goals as goal

bound : ticks (time 0x417f_ffff_f000_0000) ≡ latest
bound = ticks_size 0x417f_ffff_f000_0000 (omega arith)

pub returns : goal.returns
returns c = c.is_le.ensures
    ∙ ap is_le c.sum_order.ensures
    ∙ up_to_ltb _ _
    ∙ not_ltb (ticks (time 0x417f_ffff_f000_0000)) _
    ∙ ap (leb _) bound
