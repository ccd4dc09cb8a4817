-- The code's answers as the definitions' values. Assumes nothing.
use Rattle.std.specs.Prelude as Std
use Rattle.std.specs.Prelude.{List, [], ℕ, ◌≤◌, ◌<◌, length, Some, None}
use Rattle.std.specs.Borrow.{Bor}
use Rattle.std.proofs.Math.Option.{Option, none, some, get_or}
use Rattle.model.specs.Limits.{latest_end}
use Rattle.chart.specs.declared.Note.{Note}
use Rattle.hit_object_lines.specs.Lines as Lines
use Rattle.hit_object_lines.specs.Reading.{notes_on}
use Rattle.hit_object_reader.specs.declared.rows.Head.{Head}
use Rattle.hit_object_reader.specs.declared.rows.Line.{Line}
use Rattle.hit_object_reader.specs.declared.rows.Line.TheVariants.{Circle, Hold}

pub record Columns (columns : ℕ) : Type 0 where
  pub low : 1 ≤ columns
  pub high : columns ≤ 9

-- what a text began with, as `means` has it, and the bytes after it
abbrev pub taken : {A B : Type 0} → (A → B) → Std.Option (A × Bor (List ℕ)) → Option (B × List ℕ)
taken means (Some p) = some (means p.0, p.1.now)
taken means None = none

abbrev pub number_told : Std.Option (ℕ × Bor (List ℕ)) → Option (ℕ × List ℕ)
number_told o = taken (λ v. v) o

abbrev pub head_told : Std.Option (Head × Bor (List ℕ)) → Option ((ℕ × ℕ) × List ℕ)
head_told o = taken (λ h. (h.x, h.start)) o

abbrev pub line_of : Line → Lines.Line
line_of (Circle h) = Lines.circle h.x h.start
line_of (Hold h end) = Lines.hold h.x h.start end

abbrev pub line_told : Std.Option (Line × Bor (List ℕ)) → Option (Lines.Line × List ℕ)
line_told o = taken line_of o

abbrev pub row_told : Std.Option (Note × Bor (List ℕ)) → Option (Note × List ℕ)
row_told o = taken (λ n. n) o

-- x and the times of a line are no larger than a number may be
abbrev pub InTime : Lines.Line → Type 0
InTime (Lines.circle x start) = (x ≤ latest_end) × (start ≤ latest_end)
InTime (Lines.hold x start end) = (x ≤ latest_end) × (start ≤ latest_end) × (end ≤ latest_end)

abbrev pub checked_told : Std.Option ℕ → Option ℕ
checked_told (Some count) = some count
checked_told None = none

abbrev pub count_of : Option (List Note) → Option ℕ
count_of none = none
count_of (some ns) = some (length ns)

-- the notes of the lines; none where they have another shape
unfoldable pub lines_notes : ℕ → List ℕ → List Note
lines_notes columns s = get_or (notes_on (length s) columns s) []
