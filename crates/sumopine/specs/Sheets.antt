-- The answer of the chart sheet as the numbers that a host in C gets. Assumes nothing.
use Rattle.std.specs.Prelude.{ℕ}
use Rattle.sheet.specs.Sheet.{Outcome, refused, written}

-- the refusal's number, 0 for none
abbrev pub sheet_number : Outcome → ℕ
sheet_number (refused n) = n
sheet_number (written n) = 0

-- the sheet's length, 0 after a refusal
abbrev pub sheet_length : Outcome → ℕ
sheet_length (refused n) = 0
sheet_length (written n) = n
