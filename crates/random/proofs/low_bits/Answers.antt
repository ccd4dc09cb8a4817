-- `random::low_bits` meets its contract: a mask of 31 ones is the remainder by 2 ^ 31.
-- Assumes nothing.
use lib.Bits.{and_mask}
use Rattle.random.specs.Generator.{low}
use Rattle.random.proofs.low_bits.Goals as goal

pub returns : goal.returns
unfolding low
returns c = and_mask _ 31
