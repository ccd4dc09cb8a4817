-- Worked examples, computed. Assumes nothing.
use Rattle.std.specs.Prelude.{◌≡◌, refl, true, false, [], ◌∷◌, None, Some}
use Rattle.std.proofs.Math.Option.{none, some, bind}
use Rattle.std.specs.Float.Ieee.{of_bits}
use Rattle.rules.specs.Numbers as Numbers
use Rattle.floats.specs.Ticks.{ticks}
use Rattle.floats.specs.Whole.{above}
use Rattle.chart.specs.declared.Note.{Note}
use Rattle.text.specs.Text.{ascii, digit, digits, places, decimal}
use Rattle.hit_object_lines.specs.Lines.{circle, hold, y_part, circle_part, hold_part, end_part, head_text, line_text, millisecond, start_of, end_of, is_whole, all_whole, x_of, line_of, chart_lines, refused, stored, writing_notes}
use Rattle.hit_object_lines.specs.Reading.{is_digit, with_digit, digits_on, limited, number, starts_with, after, head, hold_on, kind_on, line, column_of, note_of_line, notes_for, reading_of, reading}

-- document 01's row: one hold in column 1 of 9 at 1000 for 300
held : Note
held = record { column = 1; hold = true; origin = Some 0; start = 0x408f_4000_0000_0000; duration = 0x4072_c000_0000_0000 }

one_hold : chart_lines 9 (held ∷ []) ≡ ascii "57,192,1000,128,0,1300:0:0:0:0:\n"
unfolding held chart_lines line_text line_of head_text y_part hold_part end_part x_of above start_of end_of millisecond ticks of_bits decimal places digits digit ascii
one_hold = refl

circle_read : line (ascii "511,192,0,1,0,0:0:0:0:\n") ≡ some (circle 511 0, [])
unfolding line head bind number digits_on limited with_digit is_digit after starts_with kind_on y_part circle_part ascii
circle_read = refl

-- the last column also for an x beyond the field
columns_found : (column_of 9 511 ≡ 8) × ((column_of 9 512 ≡ 8) × ((column_of 9 56 ≡ 0) × (column_of 9 57 ≡ 1)))
unfolding column_of
columns_found = (refl, (refl, (refl, refl)))

-- 1000.5: between two milliseconds
between : writing_notes 9 (record { column = 1; hold = false; origin = None; start = 0x408f_4400_0000_0000; duration = 0 } ∷ []) [] ≡ (refused Numbers.not_whole, [])
unfolding writing_notes all_whole is_whole start_of end_of millisecond ticks of_bits
between = refl

no_room : writing_notes 9 (held ∷ []) (0 ∷ []) ≡ (refused Numbers.text_too_short, 0 ∷ [])
unfolding held writing_notes all_whole is_whole stored chart_lines line_text line_of head_text y_part hold_part end_part x_of above start_of end_of millisecond ticks of_bits decimal places digits digit ascii
no_room = refl

leading_zero : line (ascii "00,192,0,1,0,0:0:0:0:\n") ≡ none
unfolding line head bind number digits_on limited with_digit is_digit after starts_with kind_on y_part circle_part ascii
leading_zero = refl

no_line_feed : line (ascii "0,192,0,1,0,0:0:0:0:") ≡ none
unfolding line head bind number digits_on limited with_digit is_digit after starts_with kind_on hold_on y_part circle_part hold_part ascii
no_line_feed = refl

ends_at_start : note_of_line 9 (hold 0 5 5) ≡ none
unfolding note_of_line
ends_at_start = refl

no_columns : reading [] 0 [] ≡ (refused Numbers.hit_objects, [])
unfolding reading reading_of notes_for
no_columns = refl
