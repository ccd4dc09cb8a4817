-- The numbers of the refusals, in documents 01 and 02. The enum of src/lib.rt has the same, and so has include/sumopine.h, to which the gate holds them.
-- Assumes nothing.
use Rattle.std.specs.Prelude.{ℕ}

-- the next field is not whole
abbrev pub field_not_whole : ℕ
field_not_whole = 1

abbrev pub version : ℕ
version = 2

abbrev pub key_choice : ℕ
key_choice = 3

-- a setting out of range
abbrev pub setting : ℕ
setting = 4

-- a break or point out of range or order
abbrev pub break_or_point : ℕ
break_or_point = 5

-- an object field out of range or order
abbrev pub object : ℕ
object = 6

-- a filling bit not zero, or bytes follow
abbrev pub filling : ℕ
filling = 7

-- a slider's end above the latest
abbrev pub slider_end : ℕ
slider_end = 8

-- a search has no valid column
abbrev pub no_column : ℕ
no_column = 9

-- a column is off the deck
abbrev pub off_deck : ℕ
off_deck = 10

-- the chart buffer is too short
abbrev pub chart_too_short : ℕ
chart_too_short = 11

-- a draw is needed and none is left
abbrev pub no_draw_left : ℕ
no_draw_left = 12

-- the column count, or the previous pattern on it
abbrev pub columns_or_previous : ℕ
columns_or_previous = 13

-- the chart reader finds a broken rule
abbrev pub broken_chart : ℕ
broken_chart = 14

-- the sheet buffer is too short
abbrev pub sheet_too_short : ℕ
sheet_too_short = 15

-- one search needs a draw beyond its limit
abbrev pub long_search : ℕ
long_search = 16

-- a time is not finite, or the first is above the second
abbrev pub times : ℕ
times = 17

-- the column of a lookup is not on the deck
abbrev pub column_off_deck : ℕ
column_off_deck = 18

-- the answer list is too short
abbrev pub list_too_short : ℕ
list_too_short = 19

-- an end of a range is out of bounds, or the lower is above the upper
abbrev pub range : ℕ
range = 20

-- too many objects, or more sliders and spinners than objects
abbrev pub counts : ℕ
counts = 21

-- a start or an exact end is not a whole number of milliseconds
abbrev pub not_whole : ℕ
not_whole = 24

-- the text buffer is too short
abbrev pub text_too_short : ℕ
text_too_short = 25

-- hit object lines, or their column count, that are not taken
abbrev pub hit_objects : ℕ
hit_objects = 26
