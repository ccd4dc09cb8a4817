-- The order of two whole numbers.
-- Assumes nothing.
use Rattle.std.specs.Prelude.{cond, ℕ, ltb, eqb}
use Rattle.std.specs.declared.cmp.Ordering.{Ordering}
use Rattle.std.specs.declared.cmp.Ordering.TheVariants.{Less, Equal, Greater}

unfoldable pub order_of : ℕ → ℕ → Ordering
order_of m n = cond (ltb m n) Less (cond (eqb m n) Equal Greater)
