-- The notes of a slider's pattern as words of a buffer. Assumes nothing.
use Rattle.std.specs.Prelude.{◌≡◌, ℕ, ◌+◌, ◌-◌, ◌/◌, ◌%◌, ◌^◌, ◌≤◌, Bool, leb, ltb, List, if◌then◌else◌}
use Rattle.mania.specs.PatternGenerator.{random_start}
use Rattle.mania.specs.declared.Note.{Note}
use Rattle.mania.specs.declared.SliderNote.{SliderNote}
use Rattle.mania.specs.PathObject.{note_of}
use Rattle.mania.specs.Pattern.{put}
use Rattle.pattern.specs.Answers.{column_of, pattern}
use Rattle.pattern.specs.declared.Pattern as Lent

abbrev pub slider_note : ℕ → ℕ → ℕ → SliderNote
slider_note c start end = record { column = c; start = start; end = end }

-- the note of a word: from the lowest bit on, 4 bits of column, 26 of start, 26 of end; every word has one
unfoldable pub of_word : ℕ → SliderNote
of_word w = slider_note (column_of w) (w / 2 ^ 4 % 2 ^ 26) (w / 2 ^ 30 % 2 ^ 26)

-- the same as a note of the chart
unfoldable pub note_of_word : ℕ → Note
note_of_word w = note_of (of_word w)

-- one note more was written
pub record Put (entry exit : List ℕ) (p : Lent.Pattern) (b : SliderNote) (r : Lent.Pattern) : Type 0 where
  pub is : pattern of_word exit r ≡ put b b.column (pattern of_word entry p)
  pub more : r.count ≡ p.count + 1

-- the second note of a row was written, where there are more than 2 columns
pub record PutOther (entry exit : List ℕ) (p : Lent.Pattern) (columns : ℕ) (b : SliderNote) (r : Lent.Pattern) : Type 0 where
  pub is : pattern of_word exit r ≡ (if ltb 2 columns then put b b.column (pattern of_word entry p) else pattern of_word entry p)
  pub more : r.count ≤ p.count + 1

-- whether a stair goes up from column c: the test of `add_stair`
abbrev pub rises : ℕ → ℕ → Bool → Bool
rises columns c up = if up then ltb c (columns - 1) else leb c (random_start columns)
