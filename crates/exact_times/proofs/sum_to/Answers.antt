-- `exact_times::sum_to` meets its contract: the sum does not depend on the order.
-- Assumes nothing.
use mathlib.Core.Path.{◌∙◌}
use native.Mathlib.Nat.{add_comm}
use Rattle.floats.specs.Ticks.{ticks}
use Rattle.chart.specs.Time.{time}
use Rattle.exact_times.proofs.sum_to.Goals as goal

pub returns-then-a-b : goal.returns-then-a-b
returns-then-a-b c = c.sum_with.ensures ∙ rw (add_comm (ticks (time c.args.b)))
