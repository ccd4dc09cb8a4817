-- `bits::is_short` meets its contract: the bytes up to bit `end` are its eighth, rounded up.
-- Assumes nothing.
use mathlib.Core.Path.{◌≡◌, refl}
use Prim.Native.Nat.{ℕ, ◌+◌, ◌*◌, ◌/◌}
use mathlib.Core.Bool.{Bool, true, false}
use native.Mathlib.Omega.{arith}
use lib.Dec.{ltb}
use lib.ListN.{length}
use borrow.Author.Tests.{ltb-true, ltb-false, lt-ltb, le-ltb}
use Rattle.bits.specs.Field.{short}
use Rattle.bits.proofs.is_short.Goals as goal

bytes_up : (n e : ℕ) (t : Bool) → ltb (8 * n) e ≡ t → ltb n ((e + 7) / 8) ≡ t
bytes_up n e true h = lt-ltb n ((e + 7) / 8) (omega (arith, ltb-true (8 * n) e h))
bytes_up n e false h = le-ltb n ((e + 7) / 8) (omega (arith, ltb-false (8 * n) e h))

pub returns : goal.returns
unfolding short
returns c = bytes_up (length c.args.s.now) c.args.end _ refl
