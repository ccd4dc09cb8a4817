-- `exact_times::sum_order_twice` meets its contract.
-- Assumes nothing.
use borrow.Author.Rules.{rules}
use native.Mathlib.Omega.{arith}
use Rattle.exact_times.specs.Digits.{power_of}
use Rattle.exact_times.specs.Laws.Sums.{number_twice, parts_twice}
use Rattle.exact_times.proofs.sum_order_twice.Goals as goal

pub overflow_add-power : goal.overflow_add-power
unfolding power_of
overflow_add-power c = omega (arith, c.power.ensures)

pub sum_to-requires : goal.sum_to-requires
sum_to-requires c = (search rules, search rules, rw (c.digits.ensures, c.power.ensures) (number_twice _))

pub returns : goal.returns
returns c = rw (parts_twice _ c.requires.2, ← c.digits.ensures, ← c.power.ensures) c.sum_to.ensures
