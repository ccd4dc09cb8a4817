-- `floats::within` meets its contract. `proofs/Ranges.antt` has its cases. Assumes nothing.
use Rattle.std.proofs.Common.{◌≡◌, ◌*◌, ◌%◌, ◌<◌, sym, ◌∙◌}
use lib.Ieee.{ones, hid, top}
use Rattle.floats.proofs.Ranges.{special, zero, no_nan_bits, by_the_top, too_low}
use Rattle.floats.proofs.within.Goals as goal
use Rattle.floats.proofs.within.Goals.{Else-INFINITY_BITS-b, Else-b-SIGN_BIT}

pub returns-then-INFINITY_BITS-b : goal.returns-then-INFINITY_BITS-b
returns-then-INFINITY_BITS-b g c =
    let m = g.met.F.Float in
    special g.F.Float.format _ _ _ (rw (c.INFINITY_BITS.ensures, m.infinity_is, c.number-b.ensures.value, c.SIGN_BIT.ensures, m.sign_is) at c.if-INFINITY_BITS-b.true)

pub returns-then-b-SIGN_BIT : goal.returns-then-b-SIGN_BIT
returns-then-b-SIGN_BIT g c = zero g.F.Float.format _ _ _ (sym c.number-b.ensures.value ∙ c.if-b-SIGN_BIT.true ∙ c.SIGN_BIT-2.ensures ∙ g.met.F.Float.sign_is)

-- the pattern is that of a finite number
plain : (g : _) (c : Else-INFINITY_BITS-b g) → g.F.Float.number c.args.bits % top g.F.Float.format < ones g.F.Float.format * hid g.F.Float.format
plain g c =
    let m = g.met.F.Float in
    rw (c.INFINITY_BITS.ensures, m.infinity_is, c.number-b.ensures.value, c.SIGN_BIT.ensures, m.sign_is) at c.if-INFINITY_BITS-b.false

-- and not that of negative zero
no_zero : (g : _) (c : Else-b-SIGN_BIT g) → g.F.Float.number c.args.bits ≡ top g.F.Float.format → ⊥
no_zero g c e = c.if-b-SIGN_BIT.false (c.number-b.ensures.value ∙ e ∙ sym (c.SIGN_BIT-2.ensures ∙ g.met.F.Float.sign_is))

pub of_bits-x-requires : goal.of_bits-x-requires
of_bits-x-requires g c =
    let a = c.args in
    no_nan_bits g.F.Float.format (g.F.Float.value a.lo) (g.F.Float.value a.hi) (g.F.Float.number a.bits) (plain g (goal.at.of_bits-x-requires g c).Else-INFINITY_BITS-b)

pub returns-then-at_most : goal.returns-then-at_most
returns-then-at_most g c =
    let p = goal.at.returns-then-at_most g c in
    let l = rw c.of_bits-x.ensures at (sym c.if-at_most.ensures) in
    rw c.of_bits-x.ensures at c.at_most-then-at_most.ensures
    ∙ by_the_top g.F.Float.format _ _ _ (plain g p.Else-INFINITY_BITS-b) (rw c.number-b.ensures.value at c.number-b.ensures.bound) (no_zero g p.Else-b-SIGN_BIT) l

pub returns-else-at_most : goal.returns-else-at_most
returns-else-at_most g c =
    let p = goal.at.returns-else-at_most g c in
    let l = rw c.of_bits-x.ensures at (sym c.if-at_most.ensures) in
    too_low g.F.Float.format _ _ _ (plain g p.Else-INFINITY_BITS-b) (rw c.number-b.ensures.value at c.number-b.ensures.bound) (no_zero g p.Else-b-SIGN_BIT) l
