-- Worked examples, computed.
-- Assumes nothing.
use Rattle.std.specs.Prelude.{◌≡◌, refl, true, false, List, [], ◌∷◌, ℕ, Some}
use Rattle.std.specs.Float.Ieee.{of_bits, le, lt, eq}
use Rattle.rules.specs.Numbers as Numbers
use Rattle.floats.specs.Ticks.{ticks}
use Rattle.chart.specs.declared.Note.{Note}
use Rattle.chart.specs.Tests.{every}
use Rattle.chart.specs.Time.{time}
use Rattle.chart.specs.Chart.{decode, ok_chart, ok_head, head_tests}
use Rattle.exact_times.specs.Instants.{instant, covers_at, distance}
use Rattle.chart_lookup.specs.Lookup.{Starting, Covering, refused, nothing, found, times_ok, wanted, places, filled, counted, given, listed, looked, listing}
use Rattle.chart_lookup.specs.Nearest.{away, better, taken, nearest, placed, seeking}

-- a hold at 0.1 for 0.2 in column 0, circles at 1 and 3 there, and one at 3 in column 1
notes : List Note
notes =
    record { column = 0; hold = true; origin = Some 0; start = 0x3fb9_9999_9999_999a; duration = 0x3fc9_9999_9999_999a }
    ∷ record { column = 0; hold = false; origin = Some 1; start = 0x3ff0_0000_0000_0000; duration = 0 }
    ∷ record { column = 0; hold = false; origin = Some 2; start = 0x4008_0000_0000_0000; duration = 0 }
    ∷ record { column = 1; hold = false; origin = Some 3; start = 0x4008_0000_0000_0000; duration = 0 }
    ∷ []

-- 1, 2, 3, and the f64 to which 0.1 + 0.2 is rounded
abbrev one : ℕ
one = 0x3ff0_0000_0000_0000

abbrev two : ℕ
two = 0x4000_0000_0000_0000

abbrev three : ℕ
three = 0x4008_0000_0000_0000

abbrev rounded : ℕ
rounded = 0x3fd3_3333_3333_3334

-- ends included, and later entries kept
within : listed (Starting (time one) (time three)) notes (7 ∷ 7 ∷ 7 ∷ 7 ∷ []) ≡ (found 3, 1 ∷ 2 ∷ 3 ∷ 7 ∷ [])
unfolding listed times_ok given counted places wanted filled le lt eq of_bits notes
within = refl

-- the hold covers its start, and the f64 before the rounded sum, but not the rounded sum: it lies behind the exact one
covered : listed (Covering (time 0x3fb9_9999_9999_999a)) notes (7 ∷ []) ≡ (found 1, 0 ∷ [])
unfolding listed times_ok given counted places wanted filled covers_at instant ticks of_bits notes
covered = refl

covered_last : listed (Covering (time 0x3fd3_3333_3333_3333)) notes (7 ∷ []) ≡ (found 1, 0 ∷ [])
unfolding listed times_ok given counted places wanted filled covers_at instant ticks of_bits notes
covered_last = refl

not_covered : listed (Covering (time rounded)) notes (7 ∷ []) ≡ (nothing, 7 ∷ [])
unfolding listed times_ok given counted places wanted filled covers_at instant ticks of_bits notes
not_covered = refl

-- 2 lies as near to 1 as to 3
as_near : seeking 2 notes 0 (time two) ≡ found 1
unfolding seeking nearest taken better placed away distance instant ticks of_bits notes
as_near = refl

-- -1 is nearest to the first note
before : seeking 2 notes 0 (time 0xbff0_0000_0000_0000) ≡ found 0
unfolding seeking nearest taken better placed away distance instant ticks of_bits notes
before = refl

-- a column with no note
no_note : seeking 3 notes 2 (time two) ≡ nothing
unfolding seeking nearest taken better placed away distance instant ticks of_bits notes
no_note = refl

-- the refusals: 7 bytes; an infinity, and 3 to 1; column 2 of 2; a list of two for three places
broken : listing (0x19 ∷ 0 ∷ 0 ∷ 0 ∷ 0 ∷ 0 ∷ 0 ∷ []) (Covering (time one)) (7 ∷ []) ≡ (refused Numbers.broken_chart, 7 ∷ [])
unfolding listing looked decode ok_chart ok_head head_tests every
broken = refl

infinite : listed (Covering (time 0x7ff0_0000_0000_0000)) notes (7 ∷ []) ≡ (refused Numbers.times, 7 ∷ [])
unfolding listed times_ok of_bits notes
infinite = refl

turned : listed (Starting (time three) (time one)) notes [] ≡ (refused Numbers.times, [])
unfolding listed times_ok le lt eq of_bits notes
turned = refl

off_deck_law : seeking 2 notes 2 (time two) ≡ refused Numbers.column_off_deck
unfolding seeking of_bits notes
off_deck_law = refl

too_short : listed (Starting (time one) (time three)) notes (7 ∷ 7 ∷ []) ≡ (refused Numbers.list_too_short, 7 ∷ 7 ∷ [])
unfolding listed times_ok given counted places wanted filled le lt eq of_bits notes
too_short = refl
