-- `bits::word` meets its contract. Assumes nothing.
use mathlib.Core.Path.{◌≡◌}
use Prim.Native.Nat.{◌+◌, ◌-◌, ◌*◌, ◌%◌, ◌^◌}
use Rattle.bits.specs.Field.{bits}
use Rattle.bits.proofs.Words.{shifted_is, word_is, word_lt}
use Rattle.bits.proofs.word.Goals as goal
use Rattle.bits.proofs.word.Goals.{After-first_bits}

-- what the eight bytes have of the field, shifted to its place
high : (c : After-first_bits) → (c.eight_bytes.result * 2 ^ c.args.off) % 2 ^ 64
    ≡ bits c.args.s.now (8 * c.args.i + c.args.off) (64 - c.args.off) * 2 ^ c.args.off
high c = rw c.eight_bytes.ensures (shifted_is _ _ _ c.requires.1)

pub overflow_add-result : goal.overflow_add-result
overflow_add-result c = rw (high (goal.at.overflow_add-result c).After-first_bits) (record { fits = word_lt _ _ _ c.requires.1 _ c.first_bits.ensures.1 })

pub returns : goal.returns
returns c = rw (high (goal.at.returns c).After-first_bits) (word_is _ _ _ c.requires.1 _ c.first_bits.ensures.0 c.first_bits.ensures.1)
