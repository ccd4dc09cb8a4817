-- `exact_times::moments::nearer_at` meets its contract: a law for each side of the instant on which the two times lie.
-- Assumes nothing.
use mathlib.Core.Path.{ap, ◌∙◌}
use Rattle.chart.specs.Laws.Times.{ticks_mono}
use Rattle.std.specs.Ordering.{is_lt, is_gt}
use Rattle.exact_times.specs.Laws.Orders.{less_ltb, greater_ltb}
use Rattle.exact_times.specs.Laws.Instants.{both_after, both_before, second_after, second_before, ticks_le, ticks_ltb}
use Rattle.exact_times.proofs.moments.nearer_at.Goals as goal

pub returns-then-t-first : goal.returns-then-t-first
returns-then-t-first c = ticks_ltb _ _ c.requires.1 c.requires.0 ∙ both_after _ _ _ (ticks_mono _ _ c.if-t-first.true c.requires.0) (ticks_mono _ _ c.if-t-second.true c.requires.1)

pub returns-then-t-second : goal.returns-then-t-second
returns-then-t-second c = c.is_lt.ensures
    ∙ ap is_lt c.sum_order_twice.ensures
    ∙ less_ltb _ _
    ∙ second_after _ _ _ (ticks_le _ _ c.if-t-first.false c.requires.2) (ticks_mono _ _ c.if-t-second.true c.requires.1)

pub returns-then-t-first-2 : goal.returns-then-t-first-2
returns-then-t-first-2 c = c.is_gt.ensures
    ∙ ap is_gt c.sum_order_twice-then-t-first-2.ensures
    ∙ greater_ltb _ _
    ∙ second_before _ _ _ (ticks_mono _ _ c.if-t-first-2.true c.requires.0) (ticks_le _ _ c.if-t-second.false c.requires.2)

pub returns : goal.returns
returns c = ticks_ltb _ _ c.requires.0 c.requires.1 ∙ both_before _ _ _ (ticks_le _ _ c.if-t-first-2.false c.requires.2) (ticks_le _ _ c.if-t-second.false c.requires.2)
