-- The chart's layout by version, in bytes: a header, then the notes one after another, each a head and two times. src/layout.rt has the same sizes.
-- Assumes nothing.
use Rattle.std.specs.Prelude.{ℕ, ◌+◌, ◌*◌}
use Rattle.chart.specs.declared.Version.{Version}
use Rattle.chart.specs.declared.Version.TheVariants.{One, Two}

abbrev pub header_size : ℕ
header_size = 8

-- the version's number in the header
abbrev pub version_number : Version → ℕ
version_number One = 1
version_number Two = 2

-- the head of a note. Version 1: column 4 bits, hold 1, zero 3. Version 2: column 4, hold 1, object 12, zero 7
abbrev pub head_size : Version → ℕ
head_size One = 1
head_size Two = 3

-- in the head as a number: what the column counts, what the hold's bit counts, and what the bit above the zeros counts
abbrev pub column_unit : Version → ℕ
column_unit One = 16
column_unit Two = 1048576

abbrev pub hold_unit : Version → ℕ
hold_unit One = 8
hold_unit Two = 524288

abbrev pub zero_unit : Version → ℕ
zero_unit One = 8
zero_unit Two = 128

-- the values of a note's column, which has 4 bits
abbrev pub column_values : ℕ
column_values = 16

-- the values of an object's index, which has 12 bits
abbrev pub indices : ℕ
indices = 4096

-- a note: its head, start and duration
abbrev pub note_size_in : Version → ℕ
note_size_in One = 17
note_size_in Two = 19

-- the size of a chart of n notes, and so where the note of index n begins
abbrev pub chart_size_in : Version → ℕ → ℕ
chart_size_in v n = header_size + note_size_in v * n

-- of version 2, which the converter writes
abbrev pub note_size : ℕ
note_size = note_size_in Two

abbrev pub chart_size : ℕ → ℕ
chart_size n = chart_size_in Two n

-- notes of a chart: their count has 24 bits
abbrev pub most_in_chart : ℕ
most_in_chart = 16777215
