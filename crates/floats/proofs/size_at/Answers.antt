-- `floats::size_at` meets its contract. `proofs/Size.antt` has its four cases. Assumes nothing.
use Rattle.std.proofs.Common.{ℕ, ◌+◌, ◌-◌, ◌^◌, ◌<◌, ap, ◌∙◌, arith, pow_pos}
use lib.Pow.{pow-lt}
use Rattle.floats.specs.Whole.{rounded}
use Rattle.floats.proofs.Size.{shifted, size_top, size_mid, size_zero, size_small}
use Rattle.floats.proofs.size_at.Goals as goal

pub next_to-requires : goal.next_to-requires
next_to-requires c =
    let k : 1075 - c.args.exponent < 54 = omega arith in
    let e = shifted (1075 - c.args.exponent) (omega arith) in
    (omega arith, rw e (pow-lt k), rw e (pow_pos (1075 - c.args.exponent)))

pub returns-then-exponent-ge1054 : goal.returns-then-exponent-ge1054
returns-then-exponent-ge1054 c = size_top _ _ _ _ c.if-exponent-ge1054.true

pub returns-then-exponent-ge1022 : goal.returns-then-exponent-ge1022
returns-then-exponent-ge1022 c =
    let a = c.args in
    c.next_to.ensures
    ∙ ap (λ (z : ℕ). rounded a.way a.negative (2 ^ 52 + a.digits) z) (shifted (1075 - a.exponent) (omega arith))
    ∙ size_mid a.way a.negative a.exponent a.digits c.if-exponent-ge1022.true c.if-exponent-ge1054.false c.requires

pub returns-then-exponent-digits-eq0 : goal.returns-then-exponent-digits-eq0
returns-then-exponent-digits-eq0 c = c.next_to-then-exponent-digits-eq0.ensures ∙ size_zero _ _ _ _ c.if-exponent-digits-eq0.true

pub returns-else-exponent-digits-eq0 : goal.returns-else-exponent-digits-eq0
returns-else-exponent-digits-eq0 c = c.next_to-else-exponent-digits-eq0.ensures ∙ size_small _ _ _ _ c.if-exponent-ge1022.false c.requires c.if-exponent-digits-eq0.false
