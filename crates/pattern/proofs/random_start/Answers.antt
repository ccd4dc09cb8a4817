-- `pattern::random_start` meets its contract. Assumes nothing.
use borrow.Author.Tests.{eq-eqb, ne_eqb}
use Rattle.mania.specs.PatternGenerator.{random_start}
use Rattle.pattern.proofs.random_start.Goals as goal

pub returns-then-columns-eq8 : goal.returns-then-columns-eq8
unfolding random_start
returns-then-columns-eq8 c = rw (eq-eqb _ _ c.if-columns-eq8.true)

pub returns-else-columns-eq8 : goal.returns-else-columns-eq8
unfolding random_start
returns-else-columns-eq8 c = rw (ne_eqb _ _ c.if-columns-eq8.false)
