-- `notes::put_notes` meets its contract, kind by kind. Assumes nothing.
use mathlib.Core.Path.{◌∙◌}
use mathlib.Core.Logic.{inl, inr}
use Rattle.mania.specs.EndTimeObject.{lasting, end_note}
use Rattle.end_time_object.specs.Answers.{end_note_at}
use Rattle.object.specs.Notes.{note_by, note_at}
use Rattle.notes.proofs.Columns.{circles_in, ends_in}
use Rattle.notes.proofs.put_notes.Goals as goal

pub returns-in-Circle : goal.returns-in-Circle
unfolding note_at note_by
returns-in-Circle c =
    c.put_in_columns.ensures ∙ rw (c.circle.ensures, circles_in, c.in-Circle.is)

pub returns-in-Slider : goal.returns-in-Slider
unfolding note_at note_by
returns-in-Slider c =
    c.put_slider_notes.ensures ∙ rw c.in-Slider.is

pub returns-in-Spinner : goal.returns-in-Spinner
unfolding note_at note_by end_note_at end_note lasting
returns-in-Spinner c =
    let written = c.put_in_columns-in-Spinner.ensures in
    elim c.in-Spinner.is [ inl e ↦ written ∙ rw (c.end_note_at-n.ensures, ends_in, e) | inr e ↦ written ∙ rw (c.end_note_at-n.ensures, ends_in, e) ]
