-- The buffers and the allowance with which a program converts a record (document 01, bench table). src/limits.rt has the same numbers.
-- Assumes nothing.
use Rattle.std.specs.Prelude.{ℕ, ◌*◌}
use Rattle.sheet.specs.Layout.{page_size}

-- the longest record, in bytes
abbrev pub longest_record : ℕ
longest_record = 65536

-- the chart buffer
abbrev pub chart_bytes : ℕ
chart_bytes = 65536

-- the sheet buffer: 62 pages, since a chart in the chart buffer has at most 3,854 notes
abbrev pub sheet_bytes : ℕ
sheet_bytes = 62 * page_size

-- the draws that a job may make
abbrev pub allowance : ℕ
allowance = 1000000
