-- `text::put_decimal` meets its contract: no number has more than ten digits. Assumes nothing.
use native.Mathlib.Omega.{arith}
use Rattle.text.specs.Laws.{decimal_most}
use Rattle.text.proofs.put_decimal.Goals as goal

pub put_number-requires : goal.put_number-requires
put_number-requires c = let a = c.args in omega (arith, decimal_most a.n (omega arith))

pub returns : goal.returns
returns c =
    let put = c.put_number in
    let a = c.args in
    record { value = (put.ensures.value, omega (arith, put.ensures.value, decimal_most a.n (omega arith))); s_after = put.ensures.s_after }
