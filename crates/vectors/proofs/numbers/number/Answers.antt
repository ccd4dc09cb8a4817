-- `vectors::numbers::number`: a number of n bytes is below 256^n. Assumes nothing.
use Rattle.std.proofs.Common.{ℕ, zero, suc, ◌^◌, ◌<◌, pow-suc, arith}
use Rattle.vectors.proofs.numbers.number.Goals as goal

zero_fits : (k : ℕ) → 0 < 256 ^ k
zero_fits zero = omega arith
zero_fits (suc k) = rw pow-suc (omega (arith, zero_fits k))

pub returns-then-s-size : goal.returns-then-s-size
returns-then-s-size c = zero_fits _

pub returns-then-s-size-2 : goal.returns-then-s-size-2
returns-then-s-size-2 c = zero_fits _
