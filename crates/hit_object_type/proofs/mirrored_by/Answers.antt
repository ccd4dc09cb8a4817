-- `hit_object_type::mirrored_by` meets its contract: each literal is the float nearest to its hundredths, by computation. Assumes nothing.
use lib.Ieee.{round, of_bits}
use Rattle.mania.specs.HitObject.{mirrored_by}
use Rattle.hit_object_type.proofs.mirrored_by.Goals as goal

pub returns-then-difficulty : goal.returns-then-difficulty
unfolding mirrored_by round of_bits
returns-then-difficulty c = rw c.if-difficulty.true

pub returns-then-difficulty-2 : goal.returns-then-difficulty-2
unfolding mirrored_by round of_bits
returns-then-difficulty-2 c = rw (c.if-difficulty.false, c.if-difficulty-2.true)

pub returns-else-difficulty-2 : goal.returns-else-difficulty-2
unfolding mirrored_by round of_bits
returns-else-difficulty-2 c = rw (c.if-difficulty.false, c.if-difficulty-2.false)
