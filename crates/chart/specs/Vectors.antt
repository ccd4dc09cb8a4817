-- Worked examples, computed. Assumes nothing.
use Rattle.std.specs.Prelude.{◌≡◌, refl, true, false, List, [], ◌∷◌, ◌++◌, ℕ, ◌^◌, ◌*◌, None, Some}
use Rattle.std.specs.Float.Ieee.{of_bits, le, lt, eq}
use Rattle.rules.specs.Numbers as Numbers
use Rattle.floats.specs.Range.{in_range}
use Rattle.floats.specs.Ticks.{ticks}
use Rattle.chart.specs.declared.Note.{Note}
use Rattle.chart.specs.declared.Version.TheVariants.{One, Two}
use Rattle.chart.specs.Tests.{every}
use Rattle.chart.specs.Bytes.{be, num}
use Rattle.chart.specs.Time.{time, is_time}
use Rattle.chart.specs.Order.{rank, insert, arranged}
use Rattle.chart.specs.Chart.{refused, accepted, encode, header, body, head, note_bytes, note_of, reading, reading_of, decode, ok_chart, ok_head, head_tests, ok_rows, ok_row, ok_note, note_tests, lasts, notes_of, version_of, columns_of, count_of, draws_of, score_of}

-- 1000.0, 2^-1074, and what is no time: -0.0, infinity, a NaN, -1.0
one_second : ticks (time 0x408f_4000_0000_0000) ≡ 1000 * 2 ^ 1074
unfolding ticks of_bits
one_second = refl

smallest : ticks (time 1) ≡ 1
unfolding ticks of_bits
smallest = refl

no_times : (is_time (time 0x8000_0000_0000_0000) ≡ false) × (is_time (time 0x7ff0_0000_0000_0000) ≡ false) × (is_time (time 0x7ff8_0000_0000_0000) ≡ false) × (is_time (time 0xbff0_0000_0000_0000) ≡ false)
unfolding is_time in_range le lt eq of_bits
no_times = (refl, refl, refl, refl)

-- one hold in column 1 at 1000 for 300
hold : Note
hold = record { column = 1; hold = true; origin = None; start = 0x408f_4000_0000_0000; duration = 0x4072_c000_0000_0000 }

bytes : List ℕ
bytes = 0x19 ∷ 0 ∷ 0 ∷ 1 ∷ 0 ∷ 0 ∷ 0 ∷ 1 ∷ 0x18 ∷ 0x40 ∷ 0x8f ∷ 0x40 ∷ 0 ∷ 0 ∷ 0 ∷ 0 ∷ 0 ∷ 0x40 ∷ 0x72 ∷ 0xc0 ∷ 0 ∷ 0 ∷ 0 ∷ 0 ∷ 0 ∷ []

hold_bytes : encode One 9 1 (hold ∷ []) ≡ bytes
unfolding encode header body note_bytes head be hold bytes
hold_bytes = refl

hold_read : reading bytes ≡ accepted One 9 1 1
unfolding reading reading_of decode score_of ok_chart ok_head head_tests every version_of columns_of count_of draws_of notes_of note_of ok_rows ok_row ok_note note_tests lasts is_time in_range le lt eq ticks of_bits num rank bytes
hold_read = refl

-- the same of object 4094, in version 2
named : Note
named = record { column = 1; hold = true; origin = Some 4094; start = 0x408f_4000_0000_0000; duration = 0x4072_c000_0000_0000 }

named_bytes : body Two (named ∷ []) ≡ 0x1f ∷ 0xff ∷ 0x00 ∷ 0x40 ∷ 0x8f ∷ 0x40 ∷ 0 ∷ 0 ∷ 0 ∷ 0 ∷ 0 ∷ 0x40 ∷ 0x72 ∷ 0xc0 ∷ 0 ∷ 0 ∷ 0 ∷ 0 ∷ 0 ∷ []
unfolding body note_bytes head be named
named_bytes = refl

short : reading (0x19 ∷ 0 ∷ 0 ∷ 0 ∷ 0 ∷ 0 ∷ 0 ∷ []) ≡ refused Numbers.broken_chart
unfolding reading reading_of decode ok_chart ok_head head_tests every version_of
short = refl

-- a hold at 33554431 for 2^-1074: the exact sum is past the bound, the rounded one would not be
past : List ℕ
past = 0x19 ∷ 0 ∷ 0 ∷ 1 ∷ 0 ∷ 0 ∷ 0 ∷ 1 ∷ 0x18 ∷ 0x41 ∷ 0x7f ∷ 0xff ∷ 0xff ∷ 0xf0 ∷ 0 ∷ 0 ∷ 0 ∷ 0 ∷ 0 ∷ 0 ∷ 0 ∷ 0 ∷ 0 ∷ 0 ∷ 1 ∷ []

past_bound : reading past ≡ refused Numbers.broken_chart
unfolding reading reading_of decode ok_chart ok_head head_tests every version_of columns_of count_of note_of ok_rows ok_row ok_note note_tests lasts is_time in_range le lt eq ticks of_bits num rank past
past_bound = refl

-- a circle in column 1 and one in column 0, both at 0: the reader takes them with the lower column first
chord : ℕ → ℕ → List ℕ
chord a b = 0x12 ∷ 0 ∷ 0 ∷ 2 ∷ 0 ∷ 0 ∷ 0 ∷ 0 ∷ a ∷ be 16 0 ++ b ∷ be 16 0

chord_read : (reading (chord 0 0x10) ≡ accepted One 2 2 0) × (reading (chord 0x10 0) ≡ refused Numbers.broken_chart)
unfolding reading reading_of decode score_of ok_chart ok_head head_tests every version_of columns_of count_of draws_of notes_of note_of ok_rows ok_row ok_note note_tests lasts is_time in_range le lt eq ticks of_bits num be rank chord
chord_read = (refl, refl)

-- of equal starts the lowest column stands first
circle : ℕ → ℕ → Note
circle column start = record { column = column; hold = false; origin = None; start = start; duration = 0 }

in_order : arranged [] (circle 3 5 ∷ circle 1 2 ∷ circle 0 5 ∷ circle 2 2 ∷ []) ≡ circle 1 2 ∷ circle 2 2 ∷ circle 0 5 ∷ circle 3 5 ∷ []
unfolding arranged insert rank circle
in_order = refl
