-- The chart of an accepted job is read. Assumes nothing.
use Rattle.std.specs.Prelude.{◌≡◌, ℕ, ◌^◌, ◌≤◌, ◌<◌, List, [], length, take}
use Rattle.std.proofs.Math.Option.{some}
use Rattle.chart.specs.declared.Version.TheVariants.{Two}
use Rattle.chart.specs.declared.Note as Patterns
use Rattle.chart.specs.Chart.{encode, decode}
use Rattle.chart.specs.Order.{arranged}
use Rattle.chart.specs.Lanes.{LaneRule}
use Rattle.mania.specs.Chart.{patterns_from, written}
use Rattle.mania.specs.Job.{accepted}
use Rattle.job.specs.Job.{columns, draws, notes, job}

-- the notes of a job's chart, in order, each with the index of the object at which the rules add it
unfoldable pub chart_notes : List ℕ → List ℕ → ℕ → List Patterns.Note
chart_notes bytes buffer a = arranged [] (patterns_from 0 (notes bytes buffer a))

-- Of the record's bytes with a buffer lent, under every allowance that a u32 has.
pub record Reads (bytes buffer : List ℕ) : Type 0 where
  -- the bytes are those of the columns, the draws and the notes, and the buffer's bytes after them keep their values
  pub chart : (a n g : ℕ) → (job bytes buffer a).answer ≡ accepted n g → (job bytes buffer a).chart ≡ written (encode Two (columns bytes) (draws bytes buffer a) (chart_notes bytes buffer a)) buffer
  -- the chart's length in bytes
  pub long : (a n g : ℕ) → (job bytes buffer a).answer ≡ accepted n g → n ≡ length (encode Two (columns bytes) (draws bytes buffer a) (chart_notes bytes buffer a))
  -- which the buffer has, and the buffer's own length stays
  pub room : (a n g : ℕ) → (job bytes buffer a).answer ≡ accepted n g → (n ≤ length buffer) × (length (job bytes buffer a).chart ≡ length buffer)
  -- the chart reader finds the same columns, draws and notes
  pub read : (a n g : ℕ) → a < 2 ^ 32 → (job bytes buffer a).answer ≡ accepted n g
      → decode (take n (job bytes buffer a).chart) ≡ some (record { version = Two; columns = columns bytes; draws = draws bytes buffer a; notes = chart_notes bytes buffer a })
  -- and by the chart's bytes alone, each of its notes lies on the deck, and no two of one object share a lane
  pub lanes : (a n g : ℕ) → a < 2 ^ 32 → (job bytes buffer a).answer ≡ accepted n g → LaneRule (take n (job bytes buffer a).chart)
