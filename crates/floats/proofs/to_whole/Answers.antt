-- `floats::to_whole` meets its contract: a NaN by the test, and the rest by the fields of the bit pattern (`proofs/Size.antt`). Assumes nothing.
use Rattle.std.proofs.Common.{ℕ, ◌^◌, T, leb, sym, ap, ◌∙◌, subst, w32, rules}
use lib.Ieee.{Float, to_bits, binary64}
use lib.Ieee.Compare.{differs_from_itself}
use mir.ValLaws.{to_z-of_z}
use Rattle.floats.specs.Whole.{whole, signed}
use Rattle.floats.specs.Laws.Patterns.{no_nan}
use Rattle.floats.proofs.Size.{to_whole}
use Rattle.floats.proofs.to_whole.Goals as goal

pub returns-then-x : goal.returns-then-x
unfolding whole
returns-then-x g c = ap (λ (z : Float). whole c.args.way z) (sym (differs_from_itself c.wide-x.result (subst T (sym c.if-x.true) tt)) ∙ c.wide-x.ensures)

pub float_to_bits-bits : goal.float_to_bits-bits
float_to_bits-bits g c = no_nan c.wide-x.result c.if-x.false

pub returns : goal.returns
returns g c =
    let a = c.args in
    let x = c.wide-x.result in
    to_z-of_z w32 c.with_sign.result (search rules)
    ∙ c.with_sign.ensures
    ∙ ap (λ (n : ℕ). signed (leb (2 ^ 63) (to_bits binary64 x)) n) c.size_at-size.ensures
    ∙ to_whole a.way x (subst T (sym c.wide-x.type_inv) tt) (no_nan x c.if-x.false)
    ∙ ap (whole a.way) c.wide-x.ensures
