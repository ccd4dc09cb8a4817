-- What a sheet shows, read back from its bytes: no note is lost or shown in another column.
-- Assumes nothing.
use Rattle.std.specs.Prelude.{◌≡◌, Bool, ◌||◌, cond, List, [], ◌∷◌, ◌++◌, map, ℕ, zero, suc, ◌+◌, ◌-◌, ◌*◌, ◌≤◌, ◌<◌, eqb, length, get_or, take, drop}
use Prim.Native.Char.{code}
use Rattle.chart.specs.declared.Note.{Note}
use Rattle.chart.specs.Chart.{Score, blank}
use Rattle.text.specs.Text.{ascii, space, left}
use Rattle.sheet.specs.Layout.{page_lines, page_notes, line_width, line_size, start_width}
use Rattle.sheet.specs.Sheet.{milliseconds, head_text, pages, sheet}

-- what a sheet says of a note: its column, its kind, and its start in whole milliseconds
pub record Shown : Type 0 where
  pub column : ℕ
  pub hold : Bool
  pub start : ℕ

abbrev pub shown : Note → Shown
shown n = record { column = n.column; hold = n.hold; start = milliseconds n.start }

-- ---- reading

-- the decimal number in some places, after x; spaces are passed over
unfoldable pub number : ℕ → List ℕ → ℕ
number x [] = x
number x (c ∷ cs) = number (cond (eqb c space) x (x * 10 + (c - code "0"))) cs

-- every mark in some places, the first of which is that of column i
unfoldable pub marks : ℕ → ℕ → List ℕ → List Shown
marks start i [] = []
marks start i (c ∷ cs) =
    cond (eqb c (code "#") || eqb c (code "o")) (record { column = i; hold = eqb c (code "#"); start = start } ∷ marks start (i + 1) cs) (marks start (i + 1) cs)

-- the notes that a line shows: the start stands in its first places, and the columns follow a space
unfoldable pub read_line : List ℕ → List Shown
read_line line = marks (number 0 (take start_width line)) 0 (drop (start_width + 1) line)

-- the line with index i of a sheet's bytes
unfoldable pub line_in : List ℕ → ℕ → List ℕ
line_in s i = take line_size (drop (line_size * i) s)

-- the notes that the first k lines show
unfoldable pub read_lines : ℕ → List ℕ → List Shown
read_lines zero s = []
read_lines (suc k) s = read_lines k s ++ read_line (line_in s k)

-- ---- the claims on the sheet of a chart

pub record Claims (c : Score) : Type 0 where
  -- it has whole pages
  pub size : length (sheet c) ≡ line_size * (page_lines * pages (length c.notes))
  -- each page begins with its number, from 1
  pub head : (p : ℕ) → p < pages (length c.notes) → line_in (sheet c) (page_lines * p) ≡ head_text (p + 1) ++ ascii "\n"
  -- each other line shows one note, that of its place, and nothing else
  pub note : (p k : ℕ) → k < page_notes → page_notes * p + k < length c.notes
      → read_line (line_in (sheet c) (page_lines * p + (k + 1))) ≡ shown (get_or c.notes (page_notes * p + k) blank) ∷ []
  -- or is blank, behind the last note
  pub rest : (p k : ℕ) → p < pages (length c.notes) → k < page_notes → length c.notes ≤ page_notes * p + k
      → line_in (sheet c) (page_lines * p + (k + 1)) ≡ left line_width [] ++ ascii "\n"
  -- so that all lines show all notes, in chart order, each once
  pub all : read_lines (page_lines * pages (length c.notes)) (sheet c) ≡ map shown c.notes
