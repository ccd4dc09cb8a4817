-- Worked examples, computed. Assumes nothing.
use Rattle.std.specs.Prelude.{◌≡◌, refl, true, false, [], ◌∷◌, None, Some}
use Rattle.std.specs.Float.Ieee.{of_bits}
use Rattle.floats.specs.Ticks.{ticks}
use Rattle.chart.specs.declared.Note.{Note}
use Rattle.text.specs.Text.{ascii, digit, digits, places, decimal, right, left}
use Rattle.sheet.specs.Sheet.{milliseconds, deck, note_text, head_text, refused, given, pages}

-- a hold in column 1 of 7 that starts at 3400.75 ms
hold : Note
hold = record { column = 1; hold = true; origin = None; start = 0x40aa_9180_0000_0000; duration = 0x4072_c000_0000_0000 }

hold_line : note_text 7 hold ≡ ascii "     3400 .#....."
unfolding hold note_text milliseconds ticks deck right decimal places digits digit ascii of_bits
hold_line = refl

-- a circle in the last of 9 columns, at the latest start there is
circle : Note
circle = record { column = 8; hold = false; origin = Some 7; start = 0x417f_ffff_f000_0000; duration = 0 }

circle_line : note_text 9 circle ≡ ascii " 33554431 ........o"
unfolding circle note_text milliseconds ticks deck right decimal places digits digit ascii of_bits
circle_line = refl

head_line_law : head_text 12 ≡ ascii "PAGE                                  12"
unfolding head_text left right decimal places digits digit ascii
head_line_law = refl

no_notes : pages 0 ≡ 1
no_notes = refl

page_full : pages 63 ≡ 1
page_full = refl

page_more : pages 64 ≡ 2
page_more = refl

-- a buffer of one byte for a text of two
too_short : given (ascii "o\n") (7 ∷ []) ≡ (refused 15, 7 ∷ [])
unfolding given ascii
too_short = refl
