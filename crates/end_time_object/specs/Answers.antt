-- The note of a word of a spinner's or a hold's buffer. Assumes nothing.
use Rattle.std.specs.Prelude.{ℕ, Float}
use Rattle.model.specs.declared.Object.{Object}
use Rattle.mania.specs.declared.Note.{Note}
use Rattle.mania.specs.EndTimeObject.{lasting, end_note}
use Rattle.pattern.specs.Answers.{column_of}

unfoldable pub end_note_at : Object → Float → ℕ → Note
end_note_at o duration w = end_note o (lasting o duration) (column_of w)
