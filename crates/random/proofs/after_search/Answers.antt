-- `random::after_search` meets its contract: the longer of the two. Assumes nothing.
use Rattle.random.specs.Play.{searched}
use Rattle.random.proofs.after_search.Goals as goal

pub returns : goal.returns
unfolding searched
returns c = rw c.max.ensures
