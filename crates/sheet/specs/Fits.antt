-- What holds of a chart that was read, so that each line of its sheet has its 40 places. The code holds it in `Sheet`.
-- Assumes nothing.
use Rattle.std.specs.Prelude.{List, ℕ, ◌≤◌, ◌<◌, length, get_or}
use Rattle.floats.specs.Format.{infinity}
use Rattle.floats.specs.Ticks.{ticks}
use Rattle.chart.specs.declared.Note.{Note}
use Rattle.chart.specs.Layout.{most_in_chart}
use Rattle.chart.specs.Time.{time, latest}
use Rattle.chart.specs.Chart.{blank}

-- a start that is finite and no later than the latest end
pub record StartFits (start : ℕ) : Type 0 where
  pub finite : start < infinity
  pub in_time : ticks (time start) ≤ latest

pub record NoteFits (columns : ℕ) (n : Note) : Type 0 where
  pub few_columns : columns ≤ 9
  pub on_deck : n.column < columns
  pub start : StartFits n.start

pub record Fits (columns : ℕ) (ns : List Note) : Type 0 where
  pub few_notes : length ns ≤ most_in_chart
  pub each : (i : ℕ) → i < length ns → NoteFits columns (get_or ns i blank)
