-- `floats::next_to` meets its contract: each arm is a case of `rounded`. Assumes nothing.
use Rattle.floats.specs.Whole.{rounded, above}
use Rattle.floats.proofs.next_to.Goals as goal

pub returns-in-Cut : goal.returns-in-Cut
unfolding rounded
returns-in-Cut c = simp c.in-Cut.is

pub returns-then-negative : goal.returns-then-negative
unfolding rounded above
returns-then-negative c = simp (c.in-Floor.is, c.if-negative.true)

pub returns-else-negative : goal.returns-else-negative
unfolding rounded above
returns-else-negative c = simp (c.in-Floor.is, c.if-negative.false)

pub returns-then-negative-2 : goal.returns-then-negative-2
unfolding rounded above
returns-then-negative-2 c = simp (c.in-Ceil.is, c.if-negative-2.true)

pub returns-else-negative-2 : goal.returns-else-negative-2
unfolding rounded above
returns-else-negative-2 c = simp (c.in-Ceil.is, c.if-negative-2.false)

pub returns-in-Even : goal.returns-in-Even
unfolding rounded above
returns-in-Even c = simp (c.in-Even.is, c.nearest.ensures)
