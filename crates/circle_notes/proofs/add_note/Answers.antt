-- `circle_notes::add_note` meets its contract. Assumes nothing.
use mathlib.Core.Path.{sym}
use native.Mathlib.Omega.{arith}
use Rattle.circle_notes.proofs.Words.{note_off, note_on_law}
use Rattle.circle_notes.proofs.add_note.Goals as goal

pub returns-then-g-c : goal.returns-then-g-c
returns-then-g-c c = (sym (note_off _ _ _ _ c.if-g-c.true), tt)

pub returns : goal.returns
returns c =
    (sym (note_on_law c.args.g _ _ c.args.words.now c.args.p _ (omega arith) (omega arith) (omega arith) c.with_column-mask.ensures), omega arith)
