-- `pattern::is_free` meets its contract: a mask of one bit is the remainder by 2. Assumes nothing.
use mathlib.Core.Path.{ap}
use Prim.Native.Nat.{ℕ, ◌/◌, ◌^◌}
use lib.Dec.{eqb}
use lib.Bits.{and_mask}
use Rattle.mania.specs.Pattern.{free}
use Rattle.pattern.proofs.is_free.Goals as goal

pub returns : goal.returns
unfolding free
returns c = ap (λ (x : ℕ). eqb x 0) (and_mask (c.args.mask / 2 ^ c.args.c) 1)
