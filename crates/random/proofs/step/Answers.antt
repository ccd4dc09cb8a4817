-- `random::step` meets its contract: the code is the definition.
-- Assumes nothing.
use borrow.Author.Rules.{rules}
use Rattle.random.specs.Generator.{next, mixed, twisted}
use Rattle.random.proofs.step.Goals as goal

pub returns : goal.returns
unfolding next mixed twisted
returns c = search rules
