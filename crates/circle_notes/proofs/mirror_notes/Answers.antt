-- `circle_notes::mirror_notes` meets its contract: the centre's draw, the count, and the notes. Assumes nothing.
use mathlib.Core.Path.{sym, ap, ◌∙◌}
use lib.Ieee.{round, of_bits}
use Rattle.random.specs.Play.{value}
use Rattle.random.specs.Answers.{number}
use Rattle.random.specs.Laws.Try.{goes_on}
use Rattle.mania.specs.PatternGenerator.{get_random_note_count}
use Rattle.mania.specs.HitObject.{mirror_notes}
use Rattle.pattern.specs.Laws.Bounds.{count_le}
use Rattle.pattern.specs.Laws.Exits.{leaves_placed}
use Rattle.circle_notes.proofs.mirror_notes.Goals as goal

pub returns-in_err-v : goal.returns-in_err-v
unfolding mirror_notes
returns-in_err-v c = leaves_placed _ value _ _ _ _ _ _ _ _ c.draw.ensures c.in_err-v.was c.from_residual.ensures.1

pub returns-in_err-n : goal.returns-in_err-n
unfolding mirror_notes round of_bits
returns-in_err-n c =
    let x = leaves_placed _ (get_random_note_count _ _ _ _ _) _ _ _ _ _ _ _ _ c.get_random_note_count.ensures c.in_err-n.was c.from_residual-in_err-n.ensures.1 in
    rw (← c.mirrored_chances-m.ensures, ← c.clamp-p2.ensures, ← c.clamp-p3.ensures) (x.0 ∙ sym (goes_on _ value _ _ _ _ _ c.draw.ensures c.in_ok-v.was), x.1)

pub mirror_from-requires : goal.mirror_from-requires
mirror_from-requires c =
    (c.requires.0, count_le _ _ _ _ _ _ _ _ (sym c.get_random_note_count.ensures ∙ ap number c.in_ok-n.was), c.requires.1)

pub returns : goal.returns
unfolding mirror_notes round of_bits
returns c =
    let k = c.mirror_from.ensures in (
      k.0
          ∙ sym
          (goes_on _ value _ _ _ _ _ c.draw.ensures c.in_ok-v.was
          ∙ rw (← c.mirrored_chances-m.ensures, ← c.clamp-p2.ensures, ← c.clamp-p3.ensures)
          (goes_on _ (get_random_note_count _ _ _ _ _) _ _ _ _ _ c.get_random_note_count.ensures c.in_ok-n.was
          ∙ rw (← c.next_double-val.ensures, ← c.at_centre-middle.ensures))),
      k.1,
    )
