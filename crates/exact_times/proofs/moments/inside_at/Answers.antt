-- `exact_times::moments::inside_at` meets its contract: the start is compared by its pattern, the end by the exact sum.
-- Assumes nothing.
use mathlib.Core.Path.{ap, ◌∙◌}
use Rattle.chart.specs.Laws.Times.{ticks_mono}
use Rattle.std.specs.Ordering.{is_gt}
use Rattle.exact_times.specs.Laws.Orders.{greater_ltb}
use Rattle.exact_times.specs.Laws.Instants.{not_after, before_the_end, ticks_le}
use Rattle.exact_times.proofs.moments.inside_at.Goals as goal

pub returns-then-t-start : goal.returns-then-t-start
returns-then-t-start c = not_after _ _ _ (ticks_le _ _ c.if-t-start.true c.requires.0)

pub returns : goal.returns
returns c = c.is_gt.ensures
    ∙ ap is_gt c.sum_order.ensures
    ∙ greater_ltb _ _
    ∙ before_the_end _ _ _ (ticks_mono _ _ c.if-t-start.false c.requires.2)
