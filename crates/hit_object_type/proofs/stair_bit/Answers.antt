-- `hit_object_type::stair_bit` meets its contract. Assumes nothing.
use Rattle.mania.specs.PatternType.{stair_bit}
use Rattle.hit_object_type.proofs.stair_bit.Goals as goal

pub returns-in-Up : goal.returns-in-Up
unfolding stair_bit
returns-in-Up c = rw c.in-Up.is

pub returns-in-Reverse : goal.returns-in-Reverse
unfolding stair_bit
returns-in-Reverse c = rw c.in-Reverse.is
