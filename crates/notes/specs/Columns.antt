-- Notes that differ in their column alone. Assumes nothing.
use Rattle.std.specs.Prelude.{ℕ}
use Rattle.mania.specs.declared.Note.{Note}
use Rattle.pattern.specs.Answers.{column_of}

-- the note in a word's column
unfoldable pub in_column : Note → ℕ → Note
in_column n w = record { column = column_of w; hold = n.hold; start = n.start; duration = n.duration }
