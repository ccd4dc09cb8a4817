-- `bits::read32` meets its contract: a field of 32 bits is below 2 ^ 32.
-- Assumes nothing.
use Rattle.bits.specs.Laws.Fields.{bits_lt}
use Rattle.bits.proofs.read32.Goals as goal

pub overflow_cast-result : goal.overflow_cast-result
overflow_cast-result c = rw c.read_bits.ensures (record { fits = bits_lt _ _ 32 })
