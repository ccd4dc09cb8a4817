use Prim.Native.Nat.{ℕ, ◌-◌, ◌≤◌, ◌<◌}
use lib.ListN.{length, get_or}
use Rattle.chart.specs.Chart.{notes_in, blank}
use Rattle.chart_lookup.proofs.starts.starting_before.Given as goal

abbrev pub invariant-loop-low : goal.invariant-loop-low
invariant-loop-low l = (l.low ≤ l.high) × (l.high ≤ length (notes_in l.notes.chart.now))
    × ((j : ℕ) → j < l.low → (get_or (notes_in l.notes.chart.now) j blank).start < l.pattern)
    × ((j : ℕ) → l.high ≤ j → j < length (notes_in l.notes.chart.now) → l.pattern ≤ (get_or (notes_in l.notes.chart.now) j blank).start)

abbrev pub decreases-loop-low : goal.decreases-loop-low
decreases-loop-low l = l.high - l.low
