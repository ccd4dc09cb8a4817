-- `path_object::span_flags` meets its contract. Assumes nothing.
use Rattle.mania.specs.PatternType.{◌⊔ₜ◌}
use Rattle.path_object.proofs.span_flags.Goals as goal

pub returns-then-leaves_some : goal.returns-then-leaves_some
unfolding ◌⊔ₜ◌
returns-then-leaves_some c = rw (← c.leaves_some.ensures, c.if-leaves_some.true)

pub returns-else-leaves_some : goal.returns-else-leaves_some
unfolding ◌⊔ₜ◌
returns-else-leaves_some c = rw (← c.leaves_some.ensures, c.if-leaves_some.false)
