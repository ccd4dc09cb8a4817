-- The lookup of the nearest note of a column.
-- Assumes nothing.
use Rattle.std.specs.Prelude.{cond, List, [], ◌∷◌, ℕ, suc, ltb, eqb, ℤ, Float}
use Rattle.std.proofs.Math.Option.{Option, none, some}
use Rattle.std.specs.Float.Ieee.Scale.{finite}
use Rattle.rules.specs.Numbers as Numbers
use Rattle.floats.specs.Ticks.{ticks}
use Rattle.chart.specs.declared.Note.{Note}
use Rattle.chart.specs.Time.{time}
use Rattle.chart.specs.Chart.{Score, decode}
use Rattle.exact_times.specs.Instants.{instant, distance}
use Rattle.chart_lookup.specs.Lookup.{Outcome, refused, nothing, found}

-- how far a note's start lies from an instant
unfoldable pub away : ℤ → Note → ℕ
away t n = distance (ticks (time n.start)) t

-- the best so far, by its place and how far it lies: a later note takes its place only where it is strictly nearer
unfoldable pub better : Option (ℕ × ℕ) → ℕ → ℕ → Option (ℕ × ℕ)
better none i d = some (i, d)
better (some b) i d = cond (ltb d b.1) (some (i, d)) (some b)

-- a note, at the place i, is looked at where it is of the column
unfoldable pub taken : ℕ → ℤ → Option (ℕ × ℕ) → ℕ → Note → Option (ℕ × ℕ)
taken column t best i n = cond (eqb n.column column) (better best i (away t n)) best

-- through the notes, of which the first stands at the place i
unfoldable pub nearest : ℕ → ℤ → Option (ℕ × ℕ) → ℕ → List Note → Option (ℕ × ℕ)
nearest column t best i [] = best
nearest column t best i (n ∷ ns) = nearest column t (taken column t best i n) (suc i) ns

unfoldable pub placed : Option (ℕ × ℕ) → Outcome
placed none = nothing
placed (some b) = found b.0

unfoldable pub seeking : ℕ → List Note → ℕ → Float → Outcome
seeking columns ns column t = cond (finite t) (cond (ltb column columns) (placed (nearest column (instant t) none 0 ns)) (refused Numbers.column_off_deck)) (refused Numbers.times)

unfoldable pub sought_in : Option Score → ℕ → Float → Outcome
sought_in none column t = refused Numbers.broken_chart
sought_in (some c) column t = seeking c.columns c.notes column t

unfoldable pub sought : List ℕ → ℕ → Float → Outcome
sought s column t = sought_in (decode s) column t
