-- `circle_notes::generate_random_pattern_with_mirrored` meets its contract. Assumes nothing.
use mathlib.Core.Path.{sym, ap, ◌∙◌}
use Rattle.random.specs.Play.{on}
use Rattle.mania.specs.declared.CircleChances.{CircleChances}
use Rattle.mania.specs.HitObject.{generate_random_pattern, generate_random_pattern_with_mirrored}
use Rattle.circle_notes.proofs.generate_random_pattern_with_mirrored.Goals as goal

pub returns-then-has_type : goal.returns-then-has_type
unfolding generate_random_pattern_with_mirrored
returns-then-has_type c =
    let a = c.args in
    let k = c.generate_random_pattern.ensures in (
      k.0 ∙ sym (rw (← c.has_type.ensures, c.if-has_type.true) (ap (λ (p : CircleChances). on (generate_random_pattern a.circle.g p) a.d) (sym c.unmirrored-chances.ensures))),
      k.1,
    )

pub returns : goal.returns
unfolding generate_random_pattern_with_mirrored
returns c =
    let k = c.mirror_notes.ensures in
    (rw (← c.has_type.ensures, c.if-has_type.false) k.0, k.1)
