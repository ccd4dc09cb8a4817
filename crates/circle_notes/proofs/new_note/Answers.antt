-- `circle_notes::new_note` meets its contract. Assumes nothing.
use mathlib.Core.Path.{ap, ◌∙◌}
use native.Mathlib.Omega.{arith}
use Rattle.random.specs.Play.{on}
use Rattle.mania.specs.HitObject.{add_note}
use Rattle.mania.specs.declared.Note.{Note}
use Rattle.mania.specs.Pattern.{Pattern}
use Rattle.pattern.specs.Laws.Words.{empty_is}
use Rattle.pattern.specs.Laws.Words.{at_most_le}
use Rattle.circle_notes.proofs.new_note.Goals as goal

pub returns : goal.returns
returns c =
    let a = c.args in
    let k = c.add_note.ensures in
    (k.0 ∙ ap (λ (p : Pattern Note). on (add_note a.g a.c p) a.d) (empty_is _ _), at_most_le 1 14 (omega arith) c.add_note.result k.1)
