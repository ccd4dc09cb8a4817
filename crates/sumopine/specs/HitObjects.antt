-- The answers of the writer and the reader of hit object lines as the numbers that a host in C gets. Assumes nothing.
use Rattle.std.specs.Prelude.{ℕ}
use Rattle.hit_object_lines.specs.Lines.{Outcome, refused, written}

-- the refusal's number, 0 for none
abbrev pub outcome_number : Outcome → ℕ
outcome_number (refused n) = n
outcome_number (written k) = 0

-- how many bytes were written
abbrev pub outcome_length : Outcome → ℕ
outcome_length (refused n) = 0
outcome_length (written k) = k
