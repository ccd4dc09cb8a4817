-- `hit_object::generate_core` meets its contract: at each return, the tests that led there say which branch it is. Assumes nothing.
use native.Mathlib.Omega.{arith}
use borrow.Author.Tests.{eq-eqb, ne_eqb}
use Rattle.mania.specs.HitObject.{generate_core}
use Rattle.pattern.specs.Laws.Words.{at_most_le}
use Rattle.hit_object.proofs.generate_core.Goals as goal

pub returns-then-g-eq1 : goal.returns-then-g-eq1
unfolding generate_core
returns-then-g-eq1 c =
    let k = c.new_note.ensures in
    (rw (eq-eqb _ _ c.if-g-eq1.true) k.0, k.1)

pub returns-then-repeats : goal.returns-then-repeats
unfolding generate_core
returns-then-repeats c =
    let k = c.reversed.ensures in
    (rw (ne_eqb _ _ c.if-g-eq1.false, ← c.repeats.ensures, c.if-repeats.true) k.0, k.1)

pub returns-then-cycles : goal.returns-then-cycles
unfolding generate_core
returns-then-cycles c =
    let k = c.new_note-then-cycles.ensures in
    (rw (ne_eqb _ _ c.if-g-eq1.false, ← c.repeats.ensures, c.if-repeats.false, ← c.cycles.ensures, c.if-cycles.true, ← c.image-c.ensures) k.0, k.1)

pub returns-then-repeats-2 : goal.returns-then-repeats-2
unfolding generate_core
returns-then-repeats-2 c =
    let k = c.stacked.ensures in
    (rw (ne_eqb _ _ c.if-g-eq1.false, ← c.repeats.ensures, c.if-repeats.false, ← c.cycles.ensures, c.if-cycles.false, ← c.repeats-2.ensures, c.if-repeats-2.true) k.0, k.1)

pub returns-then-climbs : goal.returns-then-climbs
unfolding generate_core
returns-then-climbs c =
    let k = c.new_note-then-climbs.ensures in
    (rw (ne_eqb _ _ c.if-g-eq1.false, ← c.repeats.ensures, c.if-repeats.false, ← c.cycles.ensures, c.if-cycles.false, ← c.repeats-2.ensures, c.if-repeats-2.false, ← c.climbs.ensures, c.if-climbs.true, ← c.stair_column-c.ensures) k.0, k.1)

pub returns-then-climbs-2 : goal.returns-then-climbs-2
unfolding generate_core
returns-then-climbs-2 c =
    let k = c.new_note-then-climbs-2.ensures in
    (rw (ne_eqb _ _ c.if-g-eq1.false, ← c.repeats.ensures, c.if-repeats.false, ← c.cycles.ensures, c.if-cycles.false, ← c.repeats-2.ensures, c.if-repeats-2.false, ← c.climbs.ensures, c.if-climbs.false, ← c.climbs-2.ensures, c.if-climbs-2.true, ← c.reverse_stair_column-c.ensures) k.0, k.1)

pub returns-then-has_type : goal.returns-then-has_type
unfolding generate_core
returns-then-has_type c =
    let k = c.generate_random_notes.ensures in
    (rw (ne_eqb _ _ c.if-g-eq1.false, ← c.repeats.ensures, c.if-repeats.false, ← c.cycles.ensures, c.if-cycles.false, ← c.repeats-2.ensures, c.if-repeats-2.false, ← c.climbs.ensures, c.if-climbs.false, ← c.climbs-2.ensures, c.if-climbs-2.false, ← c.has_type.ensures, c.if-has_type.true) k.0, at_most_le 6 14 (omega arith) c.generate_random_notes.result k.1)

pub returns-then-has_type-2 : goal.returns-then-has_type-2
unfolding generate_core
returns-then-has_type-2 c =
    let k = c.generate_random_pattern_with_mirrored.ensures in
    (rw (ne_eqb _ _ c.if-g-eq1.false, ← c.repeats.ensures, c.if-repeats.false, ← c.cycles.ensures, c.if-cycles.false, ← c.repeats-2.ensures, c.if-repeats-2.false, ← c.climbs.ensures, c.if-climbs.false, ← c.climbs-2.ensures, c.if-climbs-2.false, ← c.has_type.ensures, c.if-has_type.false, ← c.has_type-2.ensures, c.if-has_type-2.true, ← c.mirrored_by-m.ensures) k.0, k.1)

pub returns : goal.returns
unfolding generate_core
returns c =
    let k = c.generate_random_pattern.ensures in
    (rw (ne_eqb _ _ c.if-g-eq1.false, ← c.repeats.ensures, c.if-repeats.false, ← c.cycles.ensures, c.if-cycles.false, ← c.repeats-2.ensures, c.if-repeats-2.false, ← c.climbs.ensures, c.if-climbs.false, ← c.climbs-2.ensures, c.if-climbs-2.false, ← c.has_type.ensures, c.if-has_type.false, ← c.has_type-2.ensures, c.if-has_type-2.false, ← c.has_type-rare.ensures, ← c.chances_by-chances.ensures) k.0, k.1)
