use mathlib.Core.Path.{◌≡◌}
use Prim.Native.Nat.{ℕ, ◌≤◌, ◌<◌}
use lib.ListN.{get_or}
use Rattle.chart.specs.Chart.{notes_in, blank}
use Rattle.chart_lookup.proofs.nearest.next_of.Given as goal

abbrev pub invariant-loop-i : goal.invariant-loop-i
invariant-loop-i l = ((j : ℕ) → l.from ≤ j → j < l.i → (get_or (notes_in l.notes.chart.now) j blank).column ≡ l.column → ⊥)
