-- The answers of the lookups as the numbers that a host in C gets. Assumes nothing.
use Rattle.std.specs.Prelude.{ℕ}
use Rattle.chart_lookup.specs.Lookup.{Outcome, refused, nothing, found}

-- the refusal's number, 0 for none
abbrev pub lookup_number : Outcome → ℕ
lookup_number (refused n) = n
lookup_number nothing = 0
lookup_number (found k) = 0

-- how many places there are, or the place; 0 where there is none
abbrev pub lookup_count : Outcome → ℕ
lookup_count (refused n) = 0
lookup_count nothing = 0
lookup_count (found k) = k

-- whether there is a place: 1, or 0
abbrev pub is_place : Outcome → ℕ
is_place (refused n) = 0
is_place nothing = 0
is_place (found k) = 1
