-- `settings::columns_by_share` meets its contract: each arm gives what the tests on the way to it pick. Assumes nothing.
use lib.Ieee.{round, of_bits}
use Rattle.mania.specs.Convert.{columns_by_share}
use Rattle.settings.proofs.columns_by_share.Goals as goal

pub returns-then-share : goal.returns-then-share
unfolding columns_by_share round of_bits
returns-then-share c = rw c.if-share.true

pub returns-then-few : goal.returns-then-few
unfolding columns_by_share round of_bits
returns-then-few c = rw (c.if-share.false, c.if-few.true) c.by_bound.ensures

pub returns-then-share-2 : goal.returns-then-share-2
unfolding columns_by_share round of_bits
returns-then-share-2 c = rw (c.if-share.false, c.if-few.false, c.if-share-2.true) c.by_bound-then-share-2.ensures

pub returns-else-share-2 : goal.returns-else-share-2
unfolding columns_by_share round of_bits
returns-else-share-2 c = rw (c.if-share.false, c.if-few.false, c.if-share-2.false) c.columns_by_od.ensures
