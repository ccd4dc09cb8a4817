-- The sheet's layout, in lines and places. src/layout.rt has the same numbers. Assumes nothing.
use Rattle.std.specs.Prelude.{ℕ, ◌*◌}

-- the lines of a page: its first, and one for each of its notes
abbrev pub page_lines : ℕ
page_lines = 64

abbrev pub page_notes : ℕ
page_notes = 63

-- the places of a line; its bytes have a line feed besides
abbrev pub line_width : ℕ
line_width = 40

abbrev pub line_size : ℕ
line_size = 41

-- the bytes of a page
abbrev pub page_size : ℕ
page_size = line_size * page_lines

-- the places of a page's first line: those of its number, and those before
abbrev pub number_width : ℕ
number_width = 6

abbrev pub word_width : ℕ
word_width = 34

-- the places of a note's start
abbrev pub start_width : ℕ
start_width = 9
