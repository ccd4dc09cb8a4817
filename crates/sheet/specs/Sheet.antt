-- The chart sheet: its text, and the answer of putting it into a lent buffer.
-- Assumes nothing.
use Rattle.std.specs.Prelude.{Bool, cond, List, [], ◌∷◌, ◌++◌, ℕ, zero, suc, ◌+◌, ◌-◌, ◌*◌, ◌/◌, ◌%◌, ◌^◌, max, leb, eqb, length, drop, replicate, Result, Ok, Err}
use Rattle.std.proofs.Math.Option.{Option, none, some}
use Prim.Native.Char.{code}
use Rattle.rules.specs.Numbers as Numbers
use Rattle.rules.specs.Coded as Coded
use Rattle.rules.specs.declared.Refusal.{Refusal}
use Rattle.floats.specs.Ticks.{ticks}
use Rattle.chart.specs.declared.Note.{Note}
use Rattle.chart.specs.Time.{time}
use Rattle.chart.specs.Bytes.{splice}
use Rattle.chart.specs.Chart.{Score, decode}
use Rattle.text.specs.Text.{ascii, space, right, left}
use Rattle.sheet.specs.Layout.{page_lines, page_notes, line_width, number_width, word_width, start_width}

-- ---- a note's line

-- a time in whole milliseconds, cut downward; a tick is 2^-1074 ms
unfoldable pub milliseconds : ℕ → ℕ
milliseconds t = ticks (time t) / 2 ^ 1074

abbrev pub no_note : ℕ
no_note = code "."

abbrev pub mark : Bool → ℕ
mark hold = cond hold (code "#") (code "o")

-- a place for each column, with a mark in one of them
unfoldable pub deck : ℕ → ℕ → ℕ → List ℕ
deck columns column m = replicate column no_note ++ (m ∷ replicate (columns - (column + 1)) no_note)

unfoldable pub note_text : ℕ → Note → List ℕ
note_text columns n = right start_width (milliseconds n.start) ++ (space ∷ deck columns n.column (mark n.hold))

-- ---- the lines of a sheet

-- a page's first line
unfoldable pub head_text : ℕ → List ℕ
head_text page = left word_width (ascii "PAGE") ++ right number_width page

-- the first of some notes; nothing where there is none
unfoldable pub first_text : ℕ → List Note → List ℕ
first_text columns [] = []
first_text columns (n ∷ ns) = note_text columns n

-- which note the line with index i shows, where it is no page's first: both count from 0
abbrev pub place_at : ℕ → ℕ
place_at i = page_notes * (i / page_lines) + (i % page_lines - 1)

unfoldable pub text_at : ℕ → List Note → ℕ → List ℕ
text_at columns ns i = cond (eqb (i % page_lines) 0) (head_text (i / page_lines + 1)) (first_text columns (drop (place_at i) ns))

-- the line with spaces to the edge and its line feed
unfoldable pub line_at : ℕ → List Note → ℕ → List ℕ
line_at columns ns i = left line_width (text_at columns ns i) ++ ascii "\n"

-- the first k lines
unfoldable pub lines : ℕ → List Note → ℕ → List ℕ
lines columns ns zero = []
lines columns ns (suc k) = lines columns ns k ++ line_at columns ns k

-- how many pages so many notes take: one at least
abbrev pub pages : ℕ → ℕ
pages count = max 1 ((count + (page_notes - 1)) / page_notes)

unfoldable pub sheet : Score → List ℕ
sheet c = lines c.columns c.notes (page_lines * pages (length c.notes))

-- ---- a sheet in a lent buffer

-- document 02's answers: the number of a refusal, or the sheet's length
pub data Outcome : Type 0 where
  refused : ℕ → Outcome
  written : ℕ → Outcome

-- the meaning of each case of the code's answer
abbrev pub told : Result ℕ Refusal → Outcome
told (Ok n) = written n
told (Err r) = refused (Coded.code r)

-- the answer, and the buffer afterwards: later bytes keep their values, and on a refusal all do
unfoldable pub given : List ℕ → List ℕ → Outcome × List ℕ
given text buffer = cond (leb (length text) (length buffer)) (written (length text), splice buffer 0 text) (refused Numbers.sheet_too_short, buffer)

unfoldable pub putting : Option Score → List ℕ → Outcome × List ℕ
putting none buffer = (refused Numbers.broken_chart, buffer)
putting (some c) buffer = given (sheet c) buffer

unfoldable pub sheeted : List ℕ → List ℕ → Outcome × List ℕ
sheeted s buffer = putting (decode s) buffer
