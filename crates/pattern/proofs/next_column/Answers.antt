-- `pattern::next_column` meets its contract. Assumes nothing.
use borrow.Author.Tests.{eq-eqb, ne_eqb}
use Rattle.mania.specs.PatternGenerator.{next_column}
use Rattle.pattern.proofs.next_column.Goals as goal

pub returns-then-c-columns : goal.returns-then-c-columns
unfolding next_column
returns-then-c-columns c = rw (eq-eqb _ _ c.if-c-columns.true) c.random_start.ensures

pub returns-else-c-columns : goal.returns-else-c-columns
unfolding next_column
returns-else-c-columns c = rw (ne_eqb _ _ c.if-c-columns.false)
