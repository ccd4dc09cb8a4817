-- `hit_object_type::type_by_time` meets its contract: at each return, the tests that led there say which case holds. Assumes nothing.
use lib.Ieee.{round, of_bits}
use Rattle.mania.specs.PatternType.{◌⊔ₜ◌}
use Rattle.mania.specs.HitObject.{type_by_time}
use Rattle.hit_object_type.proofs.type_by_time.Goals as goal

pub returns-then-since : goal.returns-then-since
unfolding type_by_time ◌⊔ₜ◌ round of_bits
returns-then-since c = rw c.if-since.true

pub returns-then-since-2 : goal.returns-then-since-2
unfolding type_by_time ◌⊔ₜ◌ round of_bits
returns-then-since-2 c = rw (← c.stair_bit.ensures, c.if-since.false, c.if-since-2.true)

pub returns-then-since-3 : goal.returns-then-since-3
unfolding type_by_time ◌⊔ₜ◌ round of_bits
returns-then-since-3 c = rw (c.if-since.false, c.if-since-2.false, c.if-since-3.true)

pub returns-then-since-4 : goal.returns-then-since-4
unfolding type_by_time ◌⊔ₜ◌ round of_bits
returns-then-since-4 c = rw (c.if-since.false, c.if-since-2.false, c.if-since-3.false, c.if-since-4.true)

pub returns-then-since-close : goal.returns-then-since-close
unfolding type_by_time ◌⊔ₜ◌ round of_bits
returns-then-since-close c = rw (← c.near-close.ensures, c.if-since.false, c.if-since-2.false, c.if-since-3.false, c.if-since-4.false, c.if-since-close.true)

pub returns-then-since-close-2 : goal.returns-then-since-close-2
unfolding type_by_time ◌⊔ₜ◌ round of_bits
returns-then-since-close-2 c = rw (← c.near-close.ensures, c.if-since.false, c.if-since-2.false, c.if-since-3.false, c.if-since-4.false, c.if-since-close.false, c.if-since-close-2.true)

pub returns-then-close-dense : goal.returns-then-close-dense
unfolding type_by_time ◌⊔ₜ◌ round of_bits
returns-then-close-dense c = rw (← c.near-close.ensures, c.if-since.false, c.if-since-2.false, c.if-since-3.false, c.if-since-4.false, c.if-since-close.false, c.if-since-close-2.false, c.if-close-dense.true)

pub returns-then-f-dense : goal.returns-then-f-dense
unfolding type_by_time ◌⊔ₜ◌ round of_bits
returns-then-f-dense c = rw (← c.near-close.ensures, c.if-since.false, c.if-since-2.false, c.if-since-3.false, c.if-since-4.false, c.if-since-close.false, c.if-since-close-2.false, c.if-close-dense.false, c.if-f-dense.true)

pub returns-then-f : goal.returns-then-f
unfolding type_by_time ◌⊔ₜ◌ round of_bits
returns-then-f c = rw (← c.near-close.ensures, c.if-since.false, c.if-since-2.false, c.if-since-3.false, c.if-since-4.false, c.if-since-close.false, c.if-since-close-2.false, c.if-close-dense.false, c.if-f-dense.false, c.if-f.true)

pub returns : goal.returns
unfolding type_by_time ◌⊔ₜ◌ round of_bits
returns c = rw (← c.near-close.ensures, c.if-since.false, c.if-since-2.false, c.if-since-3.false, c.if-since-4.false, c.if-since-close.false, c.if-since-close-2.false, c.if-close-dense.false, c.if-f-dense.false, c.if-f.false)
