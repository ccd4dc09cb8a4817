-- `bits::read_bits` meets its contract: the nine bytes from the first bit's on hold the field, or its bytes are read one by one. Assumes nothing.
use native.Mathlib.Omega.{arith}
use Rattle.bits.specs.Field.{bits}
use Rattle.bits.proofs.Words.{field_is}
use Rattle.bits.proofs.read_bits.Goals as goal

pub returns-then-width-eq0 : goal.returns-then-width-eq0
unfolding bits
returns-then-width-eq0 c = rw c.if-width-eq0.true

pub returns : goal.returns
returns c = rw (c.word.ensures, c.power.ensures) (field_is _ _ _ (omega arith))
