-- The note of a word that an object's generator leaves in the lent buffer. Assumes nothing.
use Rattle.std.specs.Prelude.{ℕ}
use Rattle.model.specs.declared.Kind.{Kind}
use Rattle.model.specs.declared.Kind.TheVariants.{Circle, Slider, Spinner, Hold}
use Rattle.model.specs.declared.Object.{Object}
use Rattle.mania.specs.declared.Note.{Note}
use Rattle.end_time_object.specs.Answers.{end_note_at}
use Rattle.circle_notes.specs.Answers.{circle_at}
use Rattle.slider_notes.specs.Words.{note_of_word}

-- by the object's kind: a slider's word has column, start and end; any other kind's has the column
unfoldable pub note_by : Object → Kind → ℕ → Note
note_by o Circle = circle_at o.start
note_by o (Slider repeats distance sound) = note_of_word
note_by o (Spinner duration) = end_note_at o duration
note_by o (Hold duration) = end_note_at o duration

unfoldable pub note_at : Object → ℕ → Note
note_at o = note_by o o.kind
