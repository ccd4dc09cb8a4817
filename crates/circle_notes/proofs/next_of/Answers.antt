-- `circle_notes::next_of` meets its contract. Assumes nothing.
use Rattle.mania.specs.HitObject.{next_of}
use Rattle.circle_notes.proofs.next_of.Goals as goal

pub returns-then-has_type : goal.returns-then-has_type
unfolding next_of
returns-then-has_type c = rw (← c.has_type.ensures, c.if-has_type.true)

pub returns-else-has_type : goal.returns-else-has_type
unfolding next_of
returns-else-has_type c = rw (← c.has_type.ensures, c.if-has_type.false)
