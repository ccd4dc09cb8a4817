-- `end_time_object::end_note_at` meets its contract. Assumes nothing.
use mathlib.Core.Path.{◌∙◌}
use Rattle.end_time_object.specs.Answers.{end_note_at}
use Rattle.end_time_object.proofs.end_note_at.Goals as goal

pub returns : goal.returns
unfolding end_note_at
returns c = c.end_note.ensures ∙ rw (c.lasting-lasts.ensures, c.column_of.ensures)
