-- Which indices have a note at the C surface. Assumes nothing.
use Rattle.std.specs.Prelude.{◌≡◌, List, ℕ, ◌<◌}
use Rattle.chart.specs.Chart.{reading, note_in}
use Rattle.sumopine.specs.Numbers.{read_number, read_notes, is_found}

-- Of a chart that `sumopine_read_chart` takes, `sumopine_note` gives 1 for exactly the indices below *notes.
pub record Indices (chart : List ℕ) : Type 0 where
  pub below : read_number (reading chart) ≡ 0 → (i : ℕ) → i < read_notes (reading chart) → is_found (note_in chart i) ≡ 1
  pub only : read_number (reading chart) ≡ 0 → (i : ℕ) → is_found (note_in chart i) ≡ 1 → i < read_notes (reading chart)
