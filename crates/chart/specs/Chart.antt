-- The chart: its bytes, and the rule by which it is read.
-- Assumes nothing.
use Rattle.std.specs.Prelude.{◌≡◌, Bool, true, false, ◌&&◌, cond, List, [], ◌∷◌, ◌++◌, ℕ, zero, suc, ◌+◌, ◌*◌, ◌/◌, ◌%◌, ◌^◌, ◌≤◌, ◌<◌, leb, ltb, eqb, length, get_or, take, drop, None, Some, unwrap_or, Result, Ok, Err}
use Rattle.std.specs.Prelude as Std
use Rattle.std.proofs.Math.Option.{Option, none, some}
use Rattle.rules.specs.Numbers as Numbers
use Rattle.rules.specs.Coded.{code}
use Rattle.rules.specs.declared.Refusal.{Refusal}
use Rattle.rules.specs.Each.{Each}
use Rattle.chart.specs.Layout.{header_size, version_number, head_size, column_unit, hold_unit, zero_unit, indices, note_size_in, chart_size_in}
use Rattle.chart.specs.declared.Version.{Version}
use Rattle.chart.specs.declared.Version.TheVariants.{One, Two}
use Rattle.chart.specs.declared.Note.{Note}
use Rattle.chart.specs.declared.Header.{Header}
use Rattle.chart.specs.Tests.{every}
use Rattle.floats.specs.Ticks.{ticks}
use Rattle.chart.specs.Time.{time, is_time, latest}
use Rattle.chart.specs.Bytes.{be, num}
use Rattle.chart.specs.Order.{rank}

-- ---- the bytes of a chart

-- the object's index in a note's head; 0 where the note does not tell its object, as in version 1
abbrev pub index : Std.Option ℕ → ℕ
index o = unwrap_or o 0

-- a note's head as a number
unfoldable pub head : Version → Note → ℕ
head v n = n.column * column_unit v + cond n.hold (hold_unit v) 0 + index n.origin * zero_unit v

-- a note: its head, start 64 bits, duration 64
unfoldable pub note_bytes : Version → Note → List ℕ
note_bytes v n = be (head_size v) (head v n) ++ (be 8 n.start ++ be 8 n.duration)

unfoldable pub body : Version → List Note → List ℕ
body v [] = []
body v (n ∷ ns) = note_bytes v n ++ body v ns

-- version 4 bits, columns 4, notes 24, draws 32
unfoldable pub header : Version → ℕ → ℕ → ℕ → List ℕ
header v columns count draws = (version_number v * 16 + columns) ∷ (be 3 count ++ be 4 draws)

unfoldable pub encode : Version → ℕ → ℕ → List Note → List ℕ
encode v columns draws ns = header v columns (length ns) draws ++ body v ns

-- ---- what a chart's bytes say

-- the head of the note that the bytes begin with
abbrev pub head_of : Version → List ℕ → ℕ
head_of v s = num (head_size v) s

-- the object that a head tells
abbrev pub origin_of : Version → ℕ → Std.Option ℕ
origin_of One h = None
origin_of Two h = Some (h / zero_unit Two % indices)

unfoldable pub note_of : Version → List ℕ → Note
note_of v s =
    record {
      column = head_of v s / column_unit v;
      hold = leb (hold_unit v) (head_of v s % column_unit v);
      origin = origin_of v (head_of v s);
      start = num 8 (drop (head_size v) s);
      duration = num 8 (drop (head_size v + 8) s);
    }

unfoldable pub notes_of : Version → ℕ → List ℕ → List Note
notes_of v zero s = []
notes_of v (suc k) s = note_of v s ∷ notes_of v k (drop (note_size_in v) s)

-- the bytes from index i on are those of `count` notes, zero bits included
unfoldable pub Holds : Version → List ℕ → ℕ → ℕ → Type 0
Holds v s i count = take (note_size_in v * count) (drop i s) ≡ body v (notes_of v count (drop i s))

-- ---- the rule of the chart reader

-- a hold lasts; the duration of a circle is zero bits
unfoldable pub lasts : Bool → ℕ → Bool
lasts true d = ltb 0 (ticks (time d))
lasts false d = eqb d 0

-- Whether a note may follow one of rank `last` on a deck of `columns` columns: its column is on the deck; its times are finite and not negative, and
-- not negative zero; starts do not fall, nor columns among equal starts; start plus duration, exact, is at most 33,554,431.
-- Both starts are times, whose patterns order as they do (`ticks_leb`).
unfoldable pub note_tests : ℕ → ℕ → Note → List Bool
note_tests columns last n =
    ltb n.column columns
    ∷ is_time (time n.start)
    ∷ is_time (time n.duration)
    ∷ leb last (rank n)
    ∷ lasts n.hold n.duration
    ∷ leb (ticks (time n.start) + ticks (time n.duration)) latest
    ∷ []

unfoldable pub ok_note : ℕ → ℕ → Note → Bool
ok_note columns last n = every (note_tests columns last n)

unfoldable pub ok_notes : ℕ → ℕ → List Note → Bool
ok_notes columns last [] = true
ok_notes columns last (n ∷ ns) = ok_note columns last n && ok_notes columns (rank n) ns

-- a note of version 1 does not tell its object, one of version 2 does
unfoldable pub Tells : Version → Std.Option ℕ → Type 0
Tells One None = Unit {0}
Tells One (Some i) = ⊥
Tells Two None = ⊥
Tells Two (Some i) = i < indices

-- what encode is meant for: a chart that keeps the rule, with numbers that fit their fields
pub record Well (v : Version) (columns draws : ℕ) (ns : List Note) : Type 0 where
  pub some_columns : 1 ≤ columns
  pub few_columns : columns ≤ 9
  pub draws_fit : draws < 2 ^ 32
  pub notes_fit : length ns < 2 ^ 24
  pub notes_ok : ok_notes columns 0 ns ≡ true
  pub objects_told : Each (λ n. Tells v n.origin) ns

-- the last bits of a note's head are zero, and the note may stand there
unfoldable pub ok_row : Version → ℕ → ℕ → List ℕ → Bool
ok_row v columns last s = eqb (head_of v s % zero_unit v) 0 && ok_note columns last (note_of v s)

unfoldable pub ok_rows : Version → ℕ → ℕ → ℕ → List ℕ → Bool
ok_rows v columns last zero s = true
ok_rows v columns last (suc k) s = ok_row v columns last s && ok_rows v columns (rank (note_of v s)) k (drop (note_size_in v) s)

-- the fields of the header; a version other than 1 reads as 2, and is tested
unfoldable pub version_of : List ℕ → Version
version_of s = cond (eqb (get_or s 0 0 / 16) (version_number One)) One Two

unfoldable pub columns_of : List ℕ → ℕ
columns_of s = get_or s 0 0 % 16

unfoldable pub count_of : List ℕ → ℕ
count_of s = num 3 (drop 1 s)

unfoldable pub draws_of : List ℕ → ℕ
draws_of s = num 4 (drop 4 s)

-- eight bytes at least, version 1 or 2, columns 1 to 9, and exactly the stated notes
unfoldable pub head_tests : List ℕ → List Bool
head_tests s =
    leb header_size (length s)
    ∷ eqb (get_or s 0 0 / 16) (version_number (version_of s))
    ∷ leb 1 (columns_of s)
    ∷ leb (columns_of s) 9
    ∷ eqb (length s) (chart_size_in (version_of s) (count_of s))
    ∷ []

unfoldable pub ok_head : List ℕ → Bool
ok_head s = every (head_tests s)

unfoldable pub ok_chart : List ℕ → Bool
ok_chart s = ok_head s && ok_rows (version_of s) (columns_of s) 0 (count_of s) (drop header_size s)

pub record Score : Type 0 where
  pub version : Version
  pub columns : ℕ
  pub draws : ℕ
  pub notes : List Note

unfoldable pub score_of : List ℕ → Score
score_of s =
    record { version = version_of s; columns = columns_of s; draws = draws_of s; notes = notes_of (version_of s) (count_of s) (drop header_size s) }

unfoldable pub decode : List ℕ → Option Score
decode s = cond (ok_chart s) (some (score_of s)) none

-- ---- the reader's answers

-- the number of a refusal; or the version, the columns, the number of notes and the draws
pub data Reading : Type 0 where
  refused : ℕ → Reading
  accepted : Version → ℕ → ℕ → ℕ → Reading

unfoldable pub reading_of : Option Score → Reading
reading_of none = refused Numbers.broken_chart
reading_of (some c) = accepted c.version c.columns (length c.notes) c.draws

unfoldable pub reading : List ℕ → Reading
reading s = reading_of (decode s)

-- the meaning of each case of the code's answer
abbrev pub meaning : Result Header Refusal → Reading
meaning (Ok h) = accepted h.version h.columns h.notes h.draws
meaning (Err r) = refused (code r)

-- the note of index i, by the version in the header, where the bytes go on to its end
unfoldable pub note_by : Version → List ℕ → ℕ → Option Note
note_by v s i = cond (leb (chart_size_in v i + note_size_in v) (length s)) (some (note_of v (drop (chart_size_in v i) s))) none

abbrev pub note_in : List ℕ → ℕ → Option Note
note_in s i = note_by (version_of s) s i

abbrev pub found : Std.Option Note → Option Note
found (Some n) = some n
found None = none

-- the notes of a chart; of other bytes none
unfoldable pub notes_read : Option Score → List Note
notes_read none = []
notes_read (some c) = c.notes

abbrev pub notes_in : List ℕ → List Note
notes_in s = notes_read (decode s)

-- in place of a note, past the end of a list
abbrev pub blank : Note
blank = record { column = 0; hold = false; origin = None; start = 0; duration = 0 }
