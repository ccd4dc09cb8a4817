-- `bits::bit_at` meets its contract. Assumes nothing.
use Rattle.std.proofs.Common.{ℕ, ◌-◌, ◌/◌, ◌%◌, ◌^◌, ap, arith}
use Rattle.bits.specs.Field.{bit}
use Rattle.bits.proofs.bit_at.Goals as goal

pub returns : goal.returns
unfolding bit
returns c = (ap (λ (b : ℕ). b / 2 ^ (7 - c.args.at % 8) % 2) c.byte_at.ensures, omega arith)
