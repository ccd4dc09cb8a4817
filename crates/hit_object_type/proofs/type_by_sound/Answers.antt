-- `hit_object_type::type_by_sound` meets its contract. Assumes nothing.
use Rattle.mania.specs.PatternType.{◌⊔ₜ◌}
use Rattle.mania.specs.HitObject.{type_by_sound}
use Rattle.hit_object_type.proofs.type_by_sound.Goals as goal

pub returns-then-has_type : goal.returns-then-has_type
unfolding type_by_sound
returns-then-has_type c =
    rw (← c.has_type.ensures, c.if-has_type.true)

pub returns-then-has_flag-columns : goal.returns-then-has_flag-columns
unfolding type_by_sound ◌⊔ₜ◌
returns-then-has_flag-columns c =
    rw (← c.has_type.ensures, ← c.has_flag.ensures, c.if-has_type.false, c.if-has_flag-columns.true)

pub returns-then-has_flag : goal.returns-then-has_flag
unfolding type_by_sound ◌⊔ₜ◌
returns-then-has_flag c =
    rw (← c.has_type.ensures, ← c.has_flag.ensures, ← c.has_flag-2.ensures, c.if-has_type.false, c.if-has_flag-columns.false, c.if-has_flag.true)

pub returns : goal.returns
unfolding type_by_sound
returns c =
    rw (← c.has_type.ensures, ← c.has_flag.ensures, ← c.has_flag-2.ensures, c.if-has_type.false, c.if-has_flag-columns.false, c.if-has_flag.false)
