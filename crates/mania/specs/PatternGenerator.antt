-- pattern_generator/mod.rs, and `find_available_column` of the three generators. Assumes nothing.
use Rattle.std.specs.Prelude.{ℕ, zero, suc, ◌+◌, ◌-◌, List, eqb, ℤ, pos, negsuc, Float, length, if◌then◌else◌}
use Rattle.std.specs.Float.{binary32, binary64}
use Rattle.std.specs.Float.Ieee.{of_int, add, sub, mul, div, le}
use Rattle.rules.specs.Rule.{give, refuse, draw_until, ◌>>=◌}
use Rattle.rules.specs.Refusal.{ObjectRule, no_column, long_search}
use Rattle.random.specs.Generator.{between, unit}
use Rattle.random.specs.Play.{value}
use Rattle.floats.specs.Whole.{whole}
use Rattle.floats.specs.declared.Way.TheVariants.{Cut}
use Rattle.model.specs.declared.Settings.{Settings}
use Rattle.model.specs.declared.BreakPeriod.{BreakPeriod}
use Rattle.model.specs.declared.Object.{Object}
use Rattle.model.specs.Limits.{most_difficulty, search_limit}
use Rattle.model.specs.Totals.{break_time, first_start, last_start}
use Rattle.mania.specs.declared.Next.{Next}
use Rattle.mania.specs.declared.Next.TheVariants.{Draw, Step}
use Rattle.floats.specs.Least.{least, clamped}
use Rattle.mania.specs.Steps.{single, double, double#}
use Rattle.mania.specs.ManiaObject.{column}
use Rattle.mania.specs.Pattern.{free, any_free}

-- `random_start`: of 8 columns the first is special
unfoldable pub random_start : ℕ → ℕ
random_start columns = if eqb columns 8 then 1 else 0

-- `get_column(Some(true))`: the column of an x; of 8 columns one of the last seven
unfoldable pub get_column : Float → ℕ → ℕ
get_column x columns = if eqb columns 8 then column x 7 + 1 else column x columns

-- how many notes a number from 0 to 1 means, by the chances of 2 to 6
unfoldable pub note_count : Float → Float → Float → Float → Float → Float → ℕ
note_count p2 p3 p4 p5 p6 val =
    if le (sub binary64 (double 1 1) p6) val then 6
    else if le (sub binary64 (double 1 1) p5) val then 5
    else if le (sub binary64 (double 1 1) p4) val then 4
    else if le (sub binary64 (double 1 1) p3) val then 3
    else if le (sub binary64 (double 1 1) p2) val then 2
    else 1

-- `get_random_note_count`
unfoldable pub get_random_note_count : Float → Float → Float → Float → Float → ObjectRule ℕ
get_random_note_count p2 p3 p4 p5 p6 = do
  v ← value
  give (note_count p2 p3 p4 p5 p6 (unit v))

-- `get_random_column`
unfoldable pub get_random_column : ℕ → ℕ → ObjectRule ℕ
get_random_column lower upper = do
  v ← value
  give (between lower upper v)

-- ---- `find_available_column`

-- what a search finds: a column, and how many draws the search made
pub record Searched : Type 0 where
  pub column : ℕ
  pub draws : ℕ

-- a column found without a draw
abbrev pub undrawn : ℕ → Searched
undrawn c = record { column = c; draws = 0 }

-- the next column for gathered circles: `get_next_column`
unfoldable pub next_column : ℕ → ℕ → ℕ
next_column columns c = if eqb (c + 1) columns then random_start columns else c + 1

-- steps by one until a free column comes; as many steps as there are columns go round the deck, so where one is free the refusal is not reached
unfoldable pub step_to : ℕ → ℕ → ℕ → ℕ → ObjectRule Searched
step_to zero columns taken c = refuse no_column
step_to (suc n) columns taken c =
    let later = step_to n columns taken (next_column columns c) in
    if free taken (next_column columns c) then give (undrawn (next_column columns c)) else later

-- draws from lower up to, and without, upper until a free column comes; 16 where a draw beyond the limit is needed
unfoldable pub draw_to : ℕ → ℕ → ℕ → ObjectRule Searched
draw_to lower upper taken =
    draw_until tt search_limit long_search (λ v. free taken (between lower upper v)) (λ v n. give (record { column = between lower upper v; draws = n }))

-- how a search goes on from a column that is taken: the enum in place of the Rust's function argument
unfoldable pub search_on : Next → ℕ → ℕ → ℕ → ℕ → ℕ → ObjectRule Searched
search_on Draw columns c lower upper taken = draw_to lower upper taken
search_on Step columns c lower upper taken = step_to columns columns taken c

-- A search first tries its column, then whether lower up to upper has a valid one (else 9), then draws or steps by one. A column is valid where
-- the mask `taken` has it free: the union of the patterns, and of the one column that must not come again.
unfoldable pub column_search : Next → ℕ → ℕ → ℕ → ℕ → ℕ → ObjectRule Searched
column_search next columns initial lower upper taken =
    if free taken initial then give (undrawn initial)
    else if any_free taken lower (upper - lower) then search_on next columns initial lower upper taken
    else refuse no_column

-- the column of a search; its draws stay in the rule's ledger
unfoldable pub find_available_column : Next → ℕ → ℕ → ℕ → ℕ → ℕ → ObjectRule ℕ
find_available_column next columns initial lower upper taken = do
  s ← column_search next columns initial lower upper taken
  give s.column

-- ---- `conversion_difficulty`

-- 10,000 in place of 0
unfoldable pub or_ten_thousand : ℤ → ℤ
or_ten_thousand (pos zero) = pos 10000
or_ten_thousand (pos (suc n)) = pos (suc n)
or_ten_thousand (negsuc n) = negsuc n

-- `drain_time`: from the first start to the last, less the breaks, in seconds cut toward zero; breaks can make it negative
unfoldable pub drain_time : Float → Float → Float → ℤ
drain_time breaks first last = or_ten_thousand (whole Cut (div binary64 (sub binary64 (sub binary64 last first) breaks) (double 1000 1)))

-- hp and ar, and objects per second, at most 12
unfoldable pub difficulty_by : Settings → Float → Float → Float → ℕ → Float
difficulty_by s breaks first last objects =
    let life = div binary64 (add binary32 s.hp (clamped (single 4 1) (single 7 1) s.ar)) (double 3 2) in
    let pace = mul binary64 (div binary64 (double# objects) (of_int binary64 (drain_time breaks first last))) (double 9 1) in
    let both = add binary64 life pace in
    least (div binary64 (mul binary64 (div binary64 both (double 38 1)) (double 5 1)) (double 115 100)) most_difficulty

-- `conversion_difficulty`: by the total break time, the first and the last start, and the number of objects
unfoldable pub conversion_difficulty : Settings → List BreakPeriod → List Object → Float
conversion_difficulty s breaks objects =
    difficulty_by s (break_time (double 0 1) breaks) (first_start objects) (last_start (double 0 1) objects) (length objects)
