-- `floats::pattern` meets its contract.
-- Assumes nothing.
use Rattle.std.proofs.Common.{◌*◌, ◌%◌, ◌≤◌, ◌∙◌}
use lib.Ieee.{ones, hid, top}
use Rattle.floats.specs.Laws.Ranges.{no_nan, float_nan, float_is}
use Rattle.floats.proofs.pattern.Goals as goal
use Rattle.floats.proofs.pattern.Goals.{Else-INFINITY_BITS-number}

pub returns-then-INFINITY_BITS-number : goal.returns-then-INFINITY_BITS-number
returns-then-INFINITY_BITS-number g c =
    let m = g.met.F.Float in
    c.zero.ensures
    ∙ float_nan g.F.Float.format _ (rw (c.INFINITY_BITS.ensures, m.infinity_is, c.number.ensures.value, c.SIGN_BIT.ensures, m.sign_is) at c.if-INFINITY_BITS-number.true)

-- the pattern is no NaN's
number_is : (g : _) (c : Else-INFINITY_BITS-number g) → g.F.Float.number c.args.bits % top g.F.Float.format ≤ ones g.F.Float.format * hid g.F.Float.format
number_is g c =
    let m = g.met.F.Float in
    rw (c.INFINITY_BITS.ensures, m.infinity_is, c.number.ensures.value, c.SIGN_BIT.ensures, m.sign_is) at c.if-INFINITY_BITS-number.false

pub of_bits-requires : goal.of_bits-requires
of_bits-requires g c = no_nan g.F.Float.format _ (number_is g (goal.at.of_bits-requires g c).Else-INFINITY_BITS-number)

pub returns : goal.returns
returns g c = c.of_bits.ensures ∙ float_is g.F.Float.format _ (number_is g (goal.at.returns g c).Else-INFINITY_BITS-number)
