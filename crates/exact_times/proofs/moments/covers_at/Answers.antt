-- `exact_times::moments::covers_at` meets its contract: the start is compared by its pattern, the end by the rounded sum where that decides, else by the exact one.
-- Assumes nothing.
use mathlib.Core.Path.{sym, ap, ◌∙◌}
use mathlib.Core.Bool.{not}
use native.Mathlib.Nat.{le_of_lt}
use native.Mathlib.Omega.{arith}
use lib.Ieee.{binary64}
use borrow.Author.Tests.{lt-ltb, le-ltb}
use Rattle.floats.specs.Laws.Ranges.{no_nan}
use Rattle.chart.specs.Laws.Times.{ticks_mono}
use Rattle.std.specs.Ordering.{is_ge}
use Rattle.exact_times.specs.Laws.Orders.{from_ltb}
use Rattle.exact_times.specs.Laws.Instants.{too_early, by_the_end, ticks_le}
use Rattle.exact_times.specs.Laws.Rounded.{sum_under, sum_over}
use Rattle.exact_times.proofs.moments.covers_at.Goals as goal

pub returns-then-t-start : goal.returns-then-t-start
returns-then-t-start c = too_early _ _ _ (ticks_mono _ _ c.if-t-start.true c.requires.0)

pub float_from_bits-end : goal.float_from_bits-end
float_from_bits-end c = no_nan binary64 c.args.start (omega (arith, c.requires.0))

pub float_from_bits-end-2 : goal.float_from_bits-end-2
float_from_bits-end-2 c = no_nan binary64 c.args.duration (omega (arith, c.requires.1))

pub float_from_bits-at : goal.float_from_bits-at
float_from_bits-at c = no_nan binary64 c.args.t (omega (arith, c.requires.2))

pub returns-then-end-at : goal.returns-then-end-at
returns-then-end-at c = ap not (sym (lt-ltb _ _ (sum_under _ _ _ c.requires.0 c.requires.1 c.requires.2 c.if-end-at.true))) ∙ by_the_end _ _ _ (ticks_le _ _ c.if-t-start.false c.requires.2)

pub returns-then-at-end : goal.returns-then-at-end
returns-then-at-end c = ap not (sym (le-ltb _ _ (le_of_lt (sum_over _ _ _ c.requires.0 c.requires.1 c.requires.2 c.if-at-end.true)))) ∙ by_the_end _ _ _ (ticks_le _ _ c.if-t-start.false c.requires.2)

pub returns : goal.returns
returns c = c.is_ge.ensures ∙ ap is_ge c.sum_order.ensures ∙ from_ltb _ _ ∙ by_the_end _ _ _ (ticks_le _ _ c.if-t-start.false c.requires.2)
