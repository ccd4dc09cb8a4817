-- `bits::first_bits` meets its contract. Assumes nothing.
use mathlib.Core.Path.{refl}
use native.Mathlib.Omega.{arith}
use Rattle.bits.proofs.Words.{first_lt}
use Rattle.bits.proofs.first_bits.Goals as goal

pub returns : goal.returns
returns c = (refl, first_lt c.args.b c.args.k (omega arith) (omega arith))
