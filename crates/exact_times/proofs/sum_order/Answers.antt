-- `exact_times::sum_order` meets its contract.
-- Assumes nothing.
use borrow.Author.Rules.{rules}
use Rattle.exact_times.specs.Laws.Sums.{number, parts}
use Rattle.exact_times.proofs.sum_order.Goals as goal

pub sum_to-requires : goal.sum_to-requires
sum_to-requires c = (search rules, search rules, rw (c.digits.ensures, c.power.ensures) (number _))

pub returns : goal.returns
returns c = rw (parts _ c.requires.2, ← c.digits.ensures, ← c.power.ensures) c.sum_to.ensures
