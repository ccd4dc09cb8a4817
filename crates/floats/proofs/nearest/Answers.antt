-- `floats::nearest` meets its contract: each branch is a case of `closest`. Assumes nothing.
use Rattle.std.proofs.Common.{sym, ◌∙◌, mod-lt, le_antisymm, div-le_self, add-one, arith}
use Rattle.floats.specs.Laws.Rounding.{closest_lt, closest_gt, closest_eq}
use Rattle.floats.proofs.nearest.Goals as goal

pub overflow_mul-t : goal.overflow_mul-t
overflow_mul-t c = omega (arith, mod-lt c.args.a c.requires.2)

pub overflow_add-result : goal.overflow_add-result
overflow_add-result c = omega (arith, div-le_self c.args.a c.args.b)

pub overflow_add-result-else-b-t : goal.overflow_add-result-else-b-t
overflow_add-result-else-b-t c = omega (arith, div-le_self c.args.a c.args.b)

pub returns-then-t-b : goal.returns-then-t-b
returns-then-t-b c = sym (closest_lt _ _ c.if-t-b.true)

pub returns-then-b-t : goal.returns-then-b-t
returns-then-b-t c = add-one _ ∙ sym (closest_gt _ _ c.if-b-t.true)

pub returns-else-b-t : goal.returns-else-b-t
returns-else-b-t c = sym (closest_eq _ _ (le_antisymm c.if-b-t.false c.if-t-b.false))
