-- `floats::in_range` meets its contract: a NaN is out of every range, and any other float is that of its bit pattern. Assumes nothing.
use Rattle.std.proofs.Common.{T, sym, ap, ◌∙◌, subst}
use lib.Ieee.{binary64}
use lib.Ieee.Bits.{of_bits-to_bits}
use lib.Ieee.Compare.{differs_from_itself}
use Rattle.floats.specs.Range.{in_range}
use Rattle.floats.specs.Laws.Patterns.{no_nan}
use Rattle.floats.proofs.in_range.Goals as goal

pub returns-then-x : goal.returns-then-x
unfolding in_range
returns-then-x g c = ap (in_range _ _) (sym (differs_from_itself c.wide-x.result (subst T (sym c.if-x.true) tt)) ∙ c.wide-x.ensures)

pub float_to_bits-x : goal.float_to_bits-x
float_to_bits-x g c = no_nan c.wide-x.result c.if-x.false

pub returns : goal.returns
returns g c =
    rw (← c.wide-x.ensures, ← c.wide.ensures, ← c.wide-2.ensures)
    (c.within.ensures ∙ ap (in_range _ _) (of_bits-to_bits binary64 c.wide-x.result (subst T (sym c.wide-x.type_inv) tt)))
