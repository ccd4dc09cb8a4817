-- `circle_notes::add_one` meets its contract. Assumes nothing.
use mathlib.Core.Path.{sym, ◌∙◌}
use native.Mathlib.Omega.{arith}
use Rattle.circle_notes.proofs.Words.{one_free, one_taken}
use Rattle.circle_notes.proofs.add_one.Goals as goal

pub returns-then-is_free : goal.returns-then-is_free
returns-then-is_free c = (sym (one_free _ _ _ _ _ (sym c.is_free.ensures ∙ c.if-is_free.true)), omega arith)

pub returns : goal.returns
returns c =
    (c.add_note.ensures.0 ∙ sym (one_taken _ _ _ _ _ (sym c.is_free.ensures ∙ c.if-is_free.false)), c.add_note.ensures.1)
