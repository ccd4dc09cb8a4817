-- How long a chart can be, so that a host can size its buffer. Assumes nothing.
use Rattle.std.specs.Prelude.{◌≡◌, ℕ, ◌*◌, ◌≤◌, List, length}
use Rattle.model.specs.Limits.{most_notes, most_entries}
use Rattle.rules.specs.Numbers as Numbers
use Rattle.chart.specs.Layout.{chart_size}
use Rattle.mania.specs.Job.{accepted, refusal}
use Rattle.job.specs.Job.{job}

-- in bytes: the most objects, each with the most notes
abbrev pub largest_chart : ℕ
largest_chart = chart_size (most_notes * most_entries)

-- Of the record's bytes with a buffer lent, under every allowance.
pub record Largest (bytes buffer : List ℕ) : Type 0 where
  -- no chart is longer,
  pub chart : (a n g : ℕ) → (job bytes buffer a).answer ≡ accepted n g → n ≤ largest_chart
  -- and a buffer as long is never too short
  pub enough : largest_chart ≤ length buffer → (a i n : ℕ) → (job bytes buffer a).answer ≡ refusal Numbers.chart_too_short i n → ⊥
