-- `floats::narrow` meets its contract: a NaN by the test, and the rest by the fields of the bit pattern (`proofs/Nearest32.antt`). Assumes nothing.
use Rattle.std.proofs.Common.{◌≡◌, ℕ, ◌/◌, ◌%◌, ◌^◌, Bool, true, false, cond, T, leb, sym, ap, ◌∙◌, subst, le-leb}
use borrow.Author.Tests.{lt-leb}
use lib.Ieee.{binary32, binary64, div, neg, round, of_bits, to_bits}
use lib.Ieee.Compare.{differs_from_itself}
use Rattle.floats.specs.Whole.{in_units}
use Rattle.floats.specs.Narrow.{narrowed}
use Rattle.floats.specs.Laws.Patterns.{no_nan}
use Rattle.floats.proofs.Nearest32.{bits_fit, bits_no_nan, read_back, narrow_is}
use Rattle.floats.proofs.narrow.Goals as goal
use Rattle.floats.proofs.narrow.Goals.{After-narrow_size-size}

pub returns-then-x : goal.returns-then-x
unfolding div of_bits narrowed
returns-then-x c = sym (ap narrowed (differs_from_itself c.args.x (subst T (sym c.if-x.true) tt)))

pub float_to_bits-bits : goal.float_to_bits-bits
float_to_bits-bits c = no_nan c.args.x c.if-x.false

pub overflow_cast-y : goal.overflow_cast-y
overflow_cast-y c = record { fits = rw c.narrow_size-size.ensures (bits_fit _ _) }

pub float_from_bits-y : goal.float_from_bits-y
float_from_bits-y c = rw c.narrow_size-size.ensures (bits_no_nan _ _)

-- what is read from the pattern, with the sign put back
result : (c : After-narrow_size-size) (s : Bool) → leb (2 ^ 63) (to_bits binary64 c.args.x) ≡ s
    → cond s (neg (of_bits binary32 c.narrow_size-size.result)) (of_bits binary32 c.narrow_size-size.result) ≡ narrowed c.args.x
result c s e =
    let x = c.args.x in
    let b = to_bits binary64 x in
    let u = in_units binary64 (b % 2 ^ 63 / 2 ^ 52) (b % 2 ^ 52) in
    ap (λ (n : ℕ). cond s (neg (of_bits binary32 n)) (of_bits binary32 n)) c.narrow_size-size.ensures
    ∙ read_back u (2 ^ 1074) s
    ∙ ap (λ (g : Bool). round binary32 g u (2 ^ 1074)) (sym e)
    ∙ narrow_is x (subst T (sym c.well_formed.0.1) tt) (no_nan x c.if-x.false)

pub returns-then-bits-ge-SIGN_BIT : goal.returns-then-bits-ge-SIGN_BIT
returns-then-bits-ge-SIGN_BIT c = result (goal.at.returns-then-bits-ge-SIGN_BIT c).After-narrow_size-size true (le-leb _ _ c.if-bits-ge-SIGN_BIT.true)

pub returns-else-bits-ge-SIGN_BIT : goal.returns-else-bits-ge-SIGN_BIT
returns-else-bits-ge-SIGN_BIT c = result (goal.at.returns-else-bits-ge-SIGN_BIT c).After-narrow_size-size false (lt-leb _ _ c.if-bits-ge-SIGN_BIT.false)
