-- `random::next_int_range` meets its contract. The product fits, and the quotient is below max - min.
-- Assumes nothing.
use mathlib.Core.Path.{refl}
use Prim.Native.Nat.{◌-◌, ◌*◌, ◌^◌, ◌<◌}
use native.Mathlib.Omega.{arith}
use Rattle.random.specs.Generator.{between}
use Rattle.random.specs.Laws.Range.{product_lt, scaled_lt}
use Rattle.random.proofs.next_int_range.Goals as goal

pub overflow_mul-scaled : goal.overflow_mul-scaled
overflow_mul-scaled c =
    let h : c.args.v * (c.args.max - c.args.min) < (c.args.max - c.args.min) * 2 ^ 31 = product_lt c.requires.0 (omega arith) in
    omega arith

pub overflow_cast-result : goal.overflow_cast-result
overflow_cast-result c = omega (arith, scaled_lt {d = c.args.max - c.args.min} c.requires.0 (omega arith))

pub overflow_add-result : goal.overflow_add-result
overflow_add-result c = omega (arith, scaled_lt {d = c.args.max - c.args.min} c.requires.0 (omega arith))

pub returns : goal.returns
unfolding between
returns c = refl
