-- `circle_notes::add_pair` meets its contract: a note, and then the other. Assumes nothing.
use mathlib.Core.Path.{sym, subst, ◌∙◌}
use native.Mathlib.Omega.{arith}
use Rattle.random.specs.Laws.Try.{goes_on}
use Rattle.pattern.specs.Answers.{AtMost}
use Rattle.pattern.specs.Laws.Exits.{leaves_placed}
use Rattle.pattern.specs.Laws.Words.{at_most_le}
use Rattle.mania.specs.HitObject.{add_note, add_pair}
use Rattle.circle_notes.proofs.add_pair.Goals as goal

pub returns-in_err-q : goal.returns-in_err-q
unfolding add_pair
returns-in_err-q c = leaves_placed _ (add_note _ _ _) _ _ _ _ _ _ _ _ c.add_note.ensures.0 c.in_err-q.was c.from_residual.ensures.1

pub add_note-requires-2 : goal.add_note-requires-2
add_note-requires-2 c = omega (arith, subst (AtMost _) c.in_ok-q.was c.add_note.ensures.1)

pub returns : goal.returns
unfolding add_pair
returns c =
    let k = c.add_note-2.ensures in (
      k.0 ∙ sym (goes_on _ (add_note _ _ _) _ _ _ _ _ c.add_note.ensures.0 c.in_ok-q.was ∙ rw (← c.image-other.ensures)),
      at_most_le _ _ (omega (arith, subst (AtMost _) c.in_ok-q.was c.add_note.ensures.1)) c.add_note-2.result k.1,
    )
