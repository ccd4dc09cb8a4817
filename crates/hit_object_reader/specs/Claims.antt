-- What survives writing and reading.
-- Assumes nothing.
use Rattle.std.specs.Prelude.{◌≡◌, List, map, ℕ, ◌≤◌, length, take}
use Rattle.std.proofs.Math.Option.{some}
use Rattle.rules.specs.Numbers as Numbers
use Rattle.chart.specs.Layout.{chart_size_in}
use Rattle.chart.specs.declared.Version.TheVariants.{One}
use Rattle.chart.specs.declared.Note.{Note}
use Rattle.chart.specs.Bytes.{Bytes}
use Rattle.chart.specs.Chart.{Score, decode}
use Rattle.hit_object_lines.specs.Lines.{Outcome, refused, written, writing}
use Rattle.hit_object_lines.specs.Reading.{untold, reading}

-- a chart of version 1 was made, from the buffer's start: the chart reader takes it, with no draws, and finds the columns and the notes
pub record Makes (made : Outcome × List ℕ) (columns : ℕ) (ns : List Note) : Type 0 where
  pub length_told : made.0 ≡ written (chart_size_in One (length ns))
  pub read : decode (take (chart_size_in One (length ns)) made.1) ≡ some (record { version = One; columns = columns; draws = 0; notes = ns })

pub record Claims : Type 0 where
  -- a chart of either version that was written is read, with its own column count, as the same notes but for their objects: lanes, kinds, and the bits
  -- of starts and durations
  pub survives : (chart text made : List ℕ) (c : Score) (k : ℕ) → Bytes chart → decode chart ≡ some c → (writing chart text).0 ≡ written k
      → chart_size_in One (length c.notes) ≤ length made → Makes (reading (take k (writing chart text).1) c.columns made) c.columns (map untold c.notes)
  -- the notes of a chart of version 1 tell no object: they are read as they were
  pub old_same : (chart : List ℕ) (c : Score) → Bytes chart → decode chart ≡ some c → c.version ≡ One → map untold c.notes ≡ c.notes
  -- what is made of a text is a chart of version 1 with the given columns
  pub readable : (text made : List ℕ) (columns k : ℕ) → (reading text columns made).0 ≡ written k → (ns : List Note) × Makes (reading text columns made) columns ns
  -- it is written again, if the text buffer has room, and read as the same chart
  pub written_again : (text made buffer : List ℕ) (columns k n : ℕ) → (reading text columns made).0 ≡ written k
      → (writing (take k (reading text columns made).1) buffer).0 ≡ refused n → n ≡ Numbers.text_too_short
  pub read_again : (text made buffer : List ℕ) (columns k j : ℕ) → (reading text columns made).0 ≡ written k
      → (writing (take k (reading text columns made).1) buffer).0 ≡ written j
      → reading (take j (writing (take k (reading text columns made).1) buffer).1) columns made ≡ reading text columns made
