-- `exact_times::against` meets its contract: the shifted number fits 128 bits.
-- Assumes nothing.
use borrow.Author.Rules.{rules}
use mathlib.Core.Path.{refl, ◌∙◌}
use Prim.Native.Nat.{◌^◌}
use native.Mathlib.Nat.{pos_of_ne-zero, zero-mul}
use lib.Pow.{shl_exact}
use Rattle.exact_times.specs.Compare.{order_of}
use Rattle.exact_times.specs.Laws.Sums.{too_far}
use Rattle.exact_times.proofs.against.Goals as goal

pub returns-then-rest-eq0 : goal.returns-then-rest-eq0
unfolding order_of
returns-then-rest-eq0 c = rw (c.if-rest-eq0.true, zero-mul (2 ^ c.args.shift)) c.cmp.ensures

pub returns-then-shift-gt63 : goal.returns-then-shift-gt63
returns-then-shift-gt63 c = too_far _ _ _ (pos_of_ne-zero c.if-rest-eq0.false) (search rules) c.if-shift-gt63.true

pub returns : goal.returns
unfolding order_of
returns c =
    let fits = shl_exact {a = c.args.rest} 64 c.args.shift 128 (search rules) (search rules) in
    c.cmp-2.ensures ∙ rw (c.from.ensures, c.from-2.ensures, fits) refl
