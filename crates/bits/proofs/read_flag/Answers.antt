-- `bits::read_flag` meets its contract: a field of one bit is that bit. Assumes nothing.
use Rattle.std.proofs.Common.{ℕ, eqb, ap, ◌∙◌}
use Rattle.bits.specs.Field.{bit}
use Rattle.bits.proofs.Words.{flag_is}
use Rattle.bits.proofs.read_flag.Goals as goal

pub returns : goal.returns
unfolding bit
returns c = ap (λ (n : ℕ). eqb n 1) (c.bit_at.ensures.0 ∙ flag_is _ _)
