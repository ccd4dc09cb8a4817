-- The refusals that the rules of an object give, and their numbers in document 01's table. 12 is not among them: it stands for a rule
-- that was spent, so it comes from a draw alone. Assumes nothing.
use Rattle.std.specs.Prelude.{ℕ}
use Rattle.rules.specs.Numbers as Numbers
use Rattle.rules.specs.Rule.{Rule}

pub data Refusal : Type 0 where
  -- a slider ends too late
  late_end : Refusal
  -- a search has no valid column
  no_column : Refusal
  -- a column is off the deck
  off_deck : Refusal
  -- the chart buffer is too short
  too_short : Refusal
  -- one search needs a draw beyond its limit
  long_search : Refusal

abbrev pub number : Refusal → ℕ
number late_end = Numbers.slider_end
number no_column = Numbers.no_column
number off_deck = Numbers.off_deck
number too_short = Numbers.chart_too_short
number long_search = Numbers.long_search

-- a draw is needed and none is left
abbrev pub spent_number : ℕ
spent_number = Numbers.no_draw_left

-- a rule of one object: its draws need no place
abbrev pub ObjectRule : Type 0 → Type 0
ObjectRule A = Rule (Unit {0}) Refusal A
