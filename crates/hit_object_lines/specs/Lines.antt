-- Hit object lines of the osu! file format, version 14 (document 02): what a line says, its text, and the lines of a chart.
-- Assumes nothing.
use Rattle.std.specs.Prelude.{Bool, true, ◌&&◌, cond, List, [], ◌∷◌, ◌++◌, ℕ, ◌+◌, ◌*◌, ◌/◌, ◌%◌, ◌^◌, leb, eqb, length}
use Rattle.std.proofs.Math.Option.{Option, none, some}
use Rattle.rules.specs.Numbers as Numbers
use Rattle.floats.specs.Ticks.{ticks}
use Rattle.floats.specs.Whole.{above}
use Rattle.chart.specs.declared.Note.{Note}
use Rattle.chart.specs.Time.{time}
use Rattle.chart.specs.Bytes.{splice}
use Rattle.chart.specs.Chart.{Score, decode}
use Rattle.text.specs.Text.{ascii, decimal}

-- ---- a line

-- what a line says: x, and in milliseconds the start and, of a hold, the end
pub data Line : Type 0 where
  circle : ℕ → ℕ → Line
  hold : ℕ → ℕ → ℕ → Line

-- y is 192 in every line
unfoldable pub y_part : List ℕ
y_part = ascii ",192,"

-- after the start of a circle: type 1, no hit sound, no hit sample
unfoldable pub circle_part : List ℕ
circle_part = ascii ",1,0,0:0:0:0:\n"

-- after the start of a hold: type 128, no hit sound; and after its end no hit sample
unfoldable pub hold_part : List ℕ
hold_part = ascii ",128,0,"

unfoldable pub end_part : List ℕ
end_part = ascii ":0:0:0:0:\n"

-- every line begins with x, y and the start
unfoldable pub head_text : ℕ → ℕ → List ℕ
head_text x start = decimal x ++ y_part ++ decimal start

unfoldable pub line_text : Line → List ℕ
line_text (circle x start) = head_text x start ++ circle_part
line_text (hold x start end) = head_text x start ++ hold_part ++ decimal end ++ end_part

-- ---- the line of a note

-- a millisecond in ticks
unfoldable pub millisecond : ℕ
millisecond = 2 ^ 1074

-- in ticks; a circle's duration is 0
unfoldable pub start_of : Note → ℕ
start_of n = ticks (time n.start)

unfoldable pub end_of : Note → ℕ
end_of n = ticks (time n.start) + ticks (time n.duration)

-- the start and the exact end are whole numbers of milliseconds
unfoldable pub is_whole : Note → Bool
is_whole n = eqb (start_of n % millisecond) 0 && eqb (end_of n % millisecond) 0

-- the least whole number not below column · 512 / columns
unfoldable pub x_of : ℕ → ℕ → ℕ
x_of columns column = above (column * 512) columns

unfoldable pub line_of : ℕ → Note → Line
line_of columns n =
    cond n.hold
    (hold (x_of columns n.column) (start_of n / millisecond) (end_of n / millisecond))
    (circle (x_of columns n.column) (start_of n / millisecond))

-- ---- the text of a chart

unfoldable pub chart_lines : ℕ → List Note → List ℕ
chart_lines columns [] = []
chart_lines columns (n ∷ ns) = line_text (line_of columns n) ++ chart_lines columns ns

unfoldable pub all_whole : List Note → Bool
all_whole [] = true
all_whole (n ∷ ns) = is_whole n && all_whole ns

-- the number of a refusal, or how many bytes were written
pub data Outcome : Type 0 where
  refused : ℕ → Outcome
  written : ℕ → Outcome

-- bytes stored from a buffer's start, or the refusal of a buffer that is too short
unfoldable pub stored : ℕ → List ℕ → List ℕ → Outcome × List ℕ
stored number bytes buffer = cond (leb (length bytes) (length buffer)) (written (length bytes), splice buffer 0 bytes) (refused number, buffer)

unfoldable pub writing_notes : ℕ → List Note → List ℕ → Outcome × List ℕ
writing_notes columns ns text = cond (all_whole ns) (stored Numbers.text_too_short (chart_lines columns ns) text) (refused Numbers.not_whole, text)

unfoldable pub writing_of : Option Score → List ℕ → Outcome × List ℕ
writing_of none text = (refused Numbers.broken_chart, text)
writing_of (some c) text = writing_notes c.columns c.notes text

-- the writer: of a chart's bytes and a text buffer the outcome, and the buffer afterwards
unfoldable pub writing : List ℕ → List ℕ → Outcome × List ℕ
writing chart text = writing_of (decode chart) text
