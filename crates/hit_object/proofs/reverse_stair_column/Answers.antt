-- `hit_object::reverse_stair_column` meets its contract. Assumes nothing.
use native.Mathlib.Omega.{arith}
use borrow.Author.Tests.{eq-eqb, ne_eqb}
use Rattle.mania.specs.HitObject.{reverse_stair_column}
use Rattle.hit_object.proofs.reverse_stair_column.Goals as goal

pub returns-then-g-random_start : goal.returns-then-g-random_start
unfolding reverse_stair_column
returns-then-g-random_start c = rw (← c.random_start.ensures, eq-eqb _ _ c.if-g-random_start.true)

pub returns-else-g-random_start : goal.returns-else-g-random_start
unfolding reverse_stair_column
returns-else-g-random_start c = rw (← c.random_start.ensures, ne_eqb _ _ c.if-g-random_start.false) (omega arith)
