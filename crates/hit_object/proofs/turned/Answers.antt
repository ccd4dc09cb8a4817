-- `hit_object::turned` meets its contract. Assumes nothing.
use Rattle.mania.specs.HitObject.{turned}
use Rattle.hit_object.proofs.turned.Goals as goal

pub returns-then-down-c : goal.returns-then-down-c
unfolding turned
returns-then-down-c c =
    rw (← c.random_start-low.ensures, ← c.has_type-down.ensures, c.if-down-c.true)

pub returns-then-up-c : goal.returns-then-up-c
unfolding turned
returns-then-up-c c =
    rw (← c.random_start-low.ensures, ← c.has_type-down.ensures, ← c.has_type-up.ensures, c.if-down-c.false, c.if-up-c.true)

pub returns-else-up-c : goal.returns-else-up-c
unfolding turned
returns-else-up-c c =
    rw (← c.random_start-low.ensures, ← c.has_type-down.ensures, ← c.has_type-up.ensures, c.if-down-c.false, c.if-up-c.false)
