-- `random::next_double` meets its contract: the product of floats is the quotient, by `product_is`.
-- Assumes nothing.
use Rattle.random.specs.Laws.Unit.{product_is}
use Rattle.random.proofs.next_double.Goals as goal

pub returns : goal.returns
returns c = product_is c.args.v c.ranges.v.fits
