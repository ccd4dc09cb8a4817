-- `pattern::get_column` meets its contract. Assumes nothing.
use mathlib.Core.Path.{ap, ◌∙◌}
use Prim.Native.Nat.{ℕ, ◌+◌}
use native.Mathlib.Nat.{add_comm}
use native.Mathlib.Omega.{arith}
use borrow.Author.Tests.{eq-eqb, ne_eqb}
use Rattle.mania.specs.PatternGenerator.{get_column}
use Rattle.pattern.specs.Laws.Searches.{column_lt}
use Rattle.pattern.proofs.get_column.Goals as goal

pub overflow_add-result : goal.overflow_add-result
overflow_add-result c = omega (arith, c.column.ensures, column_lt c.args.x 7 (omega arith))

pub returns-then-columns-eq8 : goal.returns-then-columns-eq8
unfolding get_column
returns-then-columns-eq8 c = rw (eq-eqb _ _ c.if-columns-eq8.true) (ap (λ (n : ℕ). 1 + n) c.column.ensures ∙ add_comm 1 _)

pub returns-else-columns-eq8 : goal.returns-else-columns-eq8
unfolding get_column
returns-else-columns-eq8 c = rw (ne_eqb _ _ c.if-columns-eq8.false) c.column-else-columns-eq8.ensures
