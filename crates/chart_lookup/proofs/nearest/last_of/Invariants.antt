use mathlib.Core.Path.{◌≡◌}
use Prim.Native.Nat.{ℕ, ◌≤◌, ◌<◌}
use lib.ListN.{get_or}
use Rattle.chart.specs.Chart.{notes_in, blank}
use Rattle.chart_lookup.proofs.nearest.last_of.Given as goal

abbrev pub invariant-loop-place : goal.invariant-loop-place
invariant-loop-place l = ((j : ℕ) → l.place ≤ j → j < l.end → (get_or (notes_in l.notes.chart.now) j blank).column ≡ l.column → ⊥)
