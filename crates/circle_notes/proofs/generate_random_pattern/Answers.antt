-- `circle_notes::generate_random_pattern` meets its contract: a count, notes, and the special one, one after the other. Assumes nothing.
use mathlib.Core.Path.{sym, ap, subst, ◌∙◌}
use native.Mathlib.Omega.{arith}
use Rattle.random.specs.Answers.{number}
use Rattle.random.specs.Laws.Try.{goes_on}
use Rattle.mania.specs.HitObject.{count_of, generate_random_notes, generate_random_pattern}
use Rattle.pattern.specs.Laws.Bounds.{count_le}
use Rattle.pattern.specs.Laws.Exits.{leaves_placed}
use Rattle.pattern.specs.Answers.{AtMost}
use Rattle.circle_notes.proofs.generate_random_pattern.Goals as goal

pub returns-in_err-n : goal.returns-in_err-n
unfolding generate_random_pattern
returns-in_err-n c = leaves_placed _ (count_of _ _) _ _ _ _ _ _ _ _ c.get_random_note_count.ensures c.in_err-n.was c.from_residual.ensures.1

pub generate_random_notes-requires : goal.generate_random_notes-requires
unfolding count_of
generate_random_notes-requires c = omega (arith, count_le _ _ _ _ _ _ _ _ (sym c.get_random_note_count.ensures ∙ ap number c.in_ok-n.was))

pub returns-in_err-p : goal.returns-in_err-p
unfolding generate_random_pattern
returns-in_err-p c =
    let x = leaves_placed _ (generate_random_notes _ _) _ _ _ _ _ _ _ _ c.generate_random_notes.ensures.0 c.in_err-p.was c.from_residual-in_err-p.ensures.1 in
    (x.0 ∙ sym (goes_on _ (count_of _ _) _ _ _ _ _ c.get_random_note_count.ensures c.in_ok-n.was), x.1)

pub add_special-requires : goal.add_special-requires
add_special-requires c = omega (arith, subst (AtMost _) c.in_ok-p.was c.generate_random_notes.ensures.1)

pub returns : goal.returns
unfolding generate_random_pattern
returns c =
    let k = c.add_special.ensures in
    (k.0 ∙ sym (goes_on _ (count_of _ _) _ _ _ _ _ c.get_random_note_count.ensures c.in_ok-n.was ∙ goes_on _ (generate_random_notes _ _) _ _ _ _ _ c.generate_random_notes.ensures.0 c.in_ok-p.was), k.1)
