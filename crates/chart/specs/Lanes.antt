-- Lanes: what a note covers, and when two notes share a lane. An instant is a whole number of 2 ^ −1074 ms, of which every finite f64 is a whole
-- multiple: `ticks`.
-- Assumes nothing.
use Rattle.std.specs.Prelude.{◌≡◌, Bool, cond, List, ℕ, ◌+◌, ◌≤◌, ◌<◌, Float}
use Rattle.std.proofs.Math.Option.{some}
use Rattle.floats.specs.Ticks.{ticks}
use Rattle.chart.specs.declared.Note.{Note}
use Rattle.rules.specs.Each.{Each, EveryTwo}
use Rattle.chart.specs.Time.{time}
use Rattle.chart.specs.Chart.{Score, decode}

-- what a note covers: its column, from the first instant to the last
pub record Extent : Type 0 where
  pub column : ℕ
  pub first : ℕ
  pub last : ℕ

-- by column, hold, start and duration: a hold lasts until start plus duration, exactly
unfoldable pub extent_of : ℕ → Bool → Float → Float → Extent
extent_of column hold start duration = record { column = column; first = ticks start; last = cond hold (ticks start + ticks duration) (ticks start) }

-- of a chart's note
unfoldable pub extent : Note → Extent
extent n = extent_of n.column n.hold (time n.start) (time n.duration)

-- an instant is covered, the ends included
unfoldable pub Covers : Extent → ℕ → Type 0
Covers e t = (e.first ≤ t) × (t ≤ e.last)

-- two notes do not share a lane: no instant is covered by both in one column
unfoldable pub Apart : Extent → Extent → Type 0
Apart e f = e.column ≡ f.column → (t : ℕ) → Covers e t → Covers f t → ⊥

-- The lane rule on the bytes of a chart alone: each note lies on the deck, and no two notes of one object share a lane at any instant.
pub record LaneRule (s : List ℕ) : Type 0 where
  pub score : Score
  pub read : decode s ≡ some score
  pub deck : Each (λ n. n.column < score.columns) score.notes
  pub lanes : EveryTwo (λ n m. n.origin ≡ m.origin → Apart (extent n) (extent m)) score.notes
