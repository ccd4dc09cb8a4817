-- `pattern::with_column` meets its contract. Assumes nothing.
use mathlib.Core.Path.{ap, ◌∙◌}
use Prim.Native.Nat.{◌^◌}
use native.Mathlib.Nat.{one-mul}
use native.Mathlib.Omega.{arith}
use lib.Dec.{lit<}
use lib.Pow.{shl_exact}
use lib.Bits.{bit_or}
use Rattle.pattern.proofs.with_column.Goals as goal

pub returns : goal.returns
returns c = ap (bit_or c.args.mask) (shl_exact 1 c.args.c 16 (lit< tt) (omega arith) ∙ one-mul (2 ^ c.args.c))
