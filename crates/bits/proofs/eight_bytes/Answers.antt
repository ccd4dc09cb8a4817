-- `bits::eight_bytes` meets its contract. Assumes nothing.
use mathlib.Core.Path.{◌≡◌}
use Prim.Native.Nat.{◌+◌, ◌*◌, ◌^◌, ◌<◌}
use native.Mathlib.Omega.{arith}
use Rattle.bits.specs.Field.{bits}
use Rattle.bits.specs.Laws.Fields.{bits_lt}
use Rattle.bits.proofs.Words.{eight_are}
use Rattle.bits.proofs.eight_bytes.Goals as goal
use Rattle.bits.proofs.eight_bytes.Goals.{After-four_bytes-low}

-- the two numbers, as one
both : (c : After-four_bytes-low) → c.four_bytes-high.result * 4294967296 + c.four_bytes-low.result ≡ bits c.args.s.now (8 * c.args.i) 64
both c = rw (c.four_bytes-high.ensures, c.four_bytes-low.ensures) (eight_are _ _)

small : (c : After-four_bytes-low) → c.four_bytes-high.result < 2 ^ 32
small c = rw c.four_bytes-high.ensures (bits_lt _ _ 32)

pub overflow_mul-result : goal.overflow_mul-result
overflow_mul-result c = record { fits = omega (arith, small (goal.at.overflow_mul-result c).After-four_bytes-low) }

pub overflow_add-result : goal.overflow_add-result
overflow_add-result c = rw (both (goal.at.overflow_add-result c).After-four_bytes-low) (record { fits = bits_lt _ _ 64 })

pub returns : goal.returns
returns c = both (goal.at.returns c).After-four_bytes-low
