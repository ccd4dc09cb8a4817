-- Worked examples, computed. Assumes nothing.
use Rattle.std.specs.Prelude.{◌≡◌, refl, true, [], ◌∷◌, None}
use Rattle.chart.specs.declared.Version.TheVariants.{One}
use Rattle.chart.specs.declared.Note.{Note}
use Rattle.text.specs.Text.{ascii, digit, digits, places, decimal, hex, named, with_hex}
use Rattle.chart_text.specs.Text.{head_line, note_line, note_lines, refusal_line, chart_text}

-- document 01's row: one hold in column 1 at 1000 for 300, after one draw
hold : Note
hold = record { column = 1; hold = true; origin = None; start = 0x408f_4000_0000_0000; duration = 0x4072_c000_0000_0000 }

one_hold : chart_text (record { version = One; columns = 9; draws = 1; notes = hold ∷ [] }) ≡ ascii "columns 9 notes 1 draws 1\n1 H 408F400000000000 4072C00000000000\n"
unfolding hold chart_text head_line note_lines note_line named with_hex decimal hex places digits digit ascii
one_hold = refl

refusal : refusal_line 12 104 4294967295 ≡ ascii "refused 12 object 104 draws 4294967295\n"
unfolding refusal_line named decimal places digits digit ascii
refusal = refl
