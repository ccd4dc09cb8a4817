-- What `charttext` prints (document 01, bench table): lines, and the text of a chart. Each line ends in a line feed.
-- Assumes nothing.
use Rattle.std.specs.Prelude.{cond, List, [], ◌∷◌, ◌++◌, ℕ, length}
use Rattle.std.proofs.Math.Option.{Option, none, some}
use Rattle.chart.specs.declared.Note.{Note}
use Rattle.chart.specs.Chart.{Score, decode}
use Rattle.text.specs.Text.{ascii, decimal, named, with_hex}

-- ---- lines

-- two numbers and the draws, each number after its word
unfoldable pub draws_line : List ℕ → ℕ → List ℕ → ℕ → ℕ → List ℕ
draws_line first a second b draws = named first a ++ named second b ++ named (ascii " draws ") draws ++ ascii "\n"

unfoldable pub head_line : ℕ → ℕ → ℕ → List ℕ
head_line columns notes draws = named (ascii "columns ") columns ++ named (ascii " notes ") notes ++ named (ascii " draws ") draws ++ ascii "\n"

unfoldable pub note_line : Note → List ℕ
note_line n =
    cond n.hold
    (decimal n.column ++ with_hex (ascii " H ") n.start ++ with_hex (ascii " ") n.duration ++ ascii "\n")
    (decimal n.column ++ with_hex (ascii " C ") n.start ++ ascii "\n")

unfoldable pub note_lines : List Note → List ℕ
note_lines [] = []
note_lines (n ∷ ns) = note_line n ++ note_lines ns

unfoldable pub refusal_line : ℕ → ℕ → ℕ → List ℕ
refusal_line number object draws = named (ascii "refused ") number ++ named (ascii " object ") object ++ named (ascii " draws ") draws ++ ascii "\n"

-- ---- a chart

unfoldable pub chart_text : Score → List ℕ
chart_text c = head_line c.columns (length c.notes) c.draws ++ note_lines c.notes

unfoldable pub text_of : Option Score → List ℕ
text_of none = []
text_of (some c) = chart_text c

-- the text of the chart that the bytes hold; bytes that are no chart have none
unfoldable pub text : List ℕ → List ℕ
text s = text_of (decode s)
