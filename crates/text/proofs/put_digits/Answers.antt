-- `text::put_digits` meets its contract. The invariant: the digits from index i on are stored, and rest has those before. Assumes nothing.
use mathlib.Core.Path.{◌≡◌, ◌∙◌}
use native.Mathlib.Nat.{add-zero}
use native.Mathlib.Omega.{arith}
use Rattle.text.specs.Laws.{digits_none, digits_next}
use Rattle.text.proofs.put_digits.Goals as goal

pub loop-i-init : goal.loop-i-init
loop-i-init c = let none = digits_none c.args.s.now c.args.at c.args.base c.args.k c.args.n (omega arith) in record { stored = none.0; left = none.1 }

pub loop-i-preserved : goal.loop-i-preserved
loop-i-preserved c =
    let a = c.args in
    let l = c.loop-i in
    let next = digits_next a.s.now l.s a.at a.base a.k a.n l.i l.rest c.digit_code.result (omega arith) (omega arith) (omega arith) c.digit_code.ensures l.invariant.stored l.invariant.left in
    record { stored = next.0; left = next.1 }

pub returns : goal.returns
returns c = let done : c.loop-i.i ≡ 0 = omega arith in c.loop-i.invariant.stored ∙ rw (done, add-zero c.args.at)
