-- What a text of hit object lines is read as. Each part of a line is taken from the front of a list of bytes, and what follows it is handed on.
-- Assumes nothing.
use Rattle.std.specs.Prelude.{Bool, true, false, ◌&&◌, cond, List, [], ◌∷◌, ℕ, zero, suc, ◌+◌, ◌-◌, ◌*◌, ◌/◌, min, leb, ltb, eqb, pos, length, drop, None}
use Rattle.std.proofs.Math.Option.{Option, none, some, bind, map}
use Rattle.std.specs.Float.{binary64}
use Rattle.std.specs.Float.Ieee.{to_bits, of_int}
use Rattle.rules.specs.Numbers as Numbers
use Rattle.model.specs.Limits.{latest_end}
use Rattle.chart.specs.Layout.{most_in_chart}
use Rattle.chart.specs.declared.Version.TheVariants.{One}
use Rattle.chart.specs.declared.Note.{Note}
use Rattle.chart.specs.Chart.{encode}
use Rattle.chart.specs.Order.{rank}
use Rattle.hit_object_lines.specs.Lines.{Line, circle, hold, y_part, circle_part, hold_part, end_part, Outcome, refused, stored}

-- ---- numbers and words

unfoldable pub is_digit : ℕ → Bool
is_digit c = leb 48 c && leb c 57

-- appends a digit; saturates just above the largest number that is taken
unfoldable pub with_digit : ℕ → ℕ → ℕ
with_digit v c = min (v * 10 + (c - 48)) (latest_end + 1)

-- v with the digits that s begins with
unfoldable pub digits_on : ℕ → List ℕ → ℕ × List ℕ
digits_on v [] = (v, [])
digits_on v (c ∷ s) = cond (is_digit c) (digits_on (with_digit v c) s) (v, c ∷ s)

unfoldable pub limited : ℕ × List ℕ → Option (ℕ × List ℕ)
limited p = cond (leb p.0 latest_end) (some p) none

-- A decimal number up to 33,554,431. After 0 no digit is taken, and every word of a line begins with another sign: so no number has leading zeros.
unfoldable pub number : List ℕ → Option (ℕ × List ℕ)
number [] = none
number (c ∷ s) = cond (eqb c 48) (some (0, s)) (cond (is_digit c) (limited (digits_on (c - 48) s)) none)

unfoldable pub starts_with : List ℕ → List ℕ → Bool
starts_with [] s = true
starts_with (w ∷ word) [] = false
starts_with (w ∷ word) (c ∷ s) = eqb c w && starts_with word s

unfoldable pub after : List ℕ → List ℕ → Option (List ℕ)
after word s = cond (starts_with word s) (some (drop (length word) s)) none

-- ---- lines

-- x and the start, with y between them
unfoldable pub head : List ℕ → Option ((ℕ × ℕ) × List ℕ)
head s = bind (number s) (λ p. bind (after y_part p.1) (λ t. map (λ q. ((p.0, q.0), q.1)) (number t)))

-- a hold, from its type on
unfoldable pub hold_on : ℕ → ℕ → List ℕ → Option (Line × List ℕ)
hold_on x start s = bind (after hold_part s) (λ t. bind (number t) (λ p. map (λ u. (hold x start p.0, u)) (after end_part p.1)))

-- what follows the start
unfoldable pub kind_on : (ℕ × ℕ) × List ℕ → Option (Line × List ℕ)
kind_on h = cond (starts_with circle_part h.1) (some (circle h.0.0 h.0.1, drop (length circle_part) h.1)) (hold_on h.0.0 h.0.1 h.1)

unfoldable pub line : List ℕ → Option (Line × List ℕ)
line s = bind (head s) kind_on

-- ---- notes

-- floor(x · columns / 512), at most the last
unfoldable pub column_of : ℕ → ℕ → ℕ
column_of columns x = min (x * columns / 512) (columns - 1)

-- the bit pattern of a whole number of milliseconds
unfoldable pub time_of : ℕ → ℕ
time_of ms = to_bits binary64 (of_int binary64 (pos ms))

-- a hold ends after its start; a line does not tell the object that a note came from
unfoldable pub note_of_line : ℕ → Line → Option Note
note_of_line columns (circle x start) = some (record { column = column_of columns x; hold = false; origin = None; start = time_of start; duration = 0 })
note_of_line columns (hold x start end) =
    cond (ltb start end) (some (record { column = column_of columns x; hold = true; origin = None; start = time_of start; duration = time_of (end - start) })) none

-- a note as its line tells it: without its object
abbrev pub untold : Note → Note
untold n = record { column = n.column; hold = n.hold; origin = None; start = n.start; duration = n.duration }

unfoldable pub note_on : ℕ → List ℕ → Option (Note × List ℕ)
note_on columns s = bind (line s) (λ p. map (λ n. (n, p.1)) (note_of_line columns p.0))

-- the notes of k lines at most, up to the end of s
unfoldable pub notes_on : ℕ → ℕ → List ℕ → Option (List Note)
notes_on zero columns [] = some []
notes_on zero columns (c ∷ s) = none
notes_on (suc k) columns [] = some []
notes_on (suc k) columns (c ∷ s) = bind (note_on columns (c ∷ s)) (λ p. map (λ ns. p.0 ∷ ns) (notes_on k columns p.1))

-- ranks never fall (`chart/specs/Order`)
unfoldable pub in_order : ℕ → List Note → Bool
in_order last [] = true
in_order last (n ∷ ns) = leb last (rank n) && in_order (rank n) ns

unfoldable pub fitting : List Note → Option (List Note)
fitting ns = cond (in_order 0 ns && leb (length ns) most_in_chart) (some ns) none

-- the notes of a text with a column count; a line has a byte at least, so a text has no more lines than bytes
unfoldable pub notes_for : ℕ → List ℕ → Option (List Note)
notes_for columns s = cond (leb 1 columns && leb columns 9) (bind (notes_on (length s) columns s) fitting) none

-- ---- the reader

unfoldable pub reading_of : ℕ → Option (List Note) → List ℕ → Outcome × List ℕ
reading_of columns none chart = (refused Numbers.hit_objects, chart)
reading_of columns (some ns) chart = stored Numbers.chart_too_short (encode One columns 0 ns) chart

-- of a text, a column count and a chart buffer the outcome, and the buffer afterwards: a chart of version 1 with no draws
unfoldable pub reading : List ℕ → ℕ → List ℕ → Outcome × List ℕ
reading s columns chart = reading_of columns (notes_for columns s) chart
