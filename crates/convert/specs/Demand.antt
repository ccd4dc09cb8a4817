-- Demands 1, 2 and 3 once more, of what `convert` answers. Assumes nothing.
use Rattle.std.specs.Prelude.{◌≡◌, ℕ, ◌+◌, ◌-◌, ◌^◌, ◌≤◌, ◌<◌, List, length, take, replicate}
use Rattle.std.proofs.Math.Option.{some}
use Rattle.rules.specs.Numbers as Numbers
use Rattle.rules.specs.Rule.{spent}
use Rattle.rules.specs.Ledger.{sum, largest}
use Rattle.random.specs.Generator.{seeded, steps}
use Rattle.random.specs.Play.{tallied}
use Rattle.model.specs.Song.{Song}
use Rattle.record.specs.Record.{accepted, parse}
use Rattle.chart.specs.declared.Version.TheVariants.{Two}
use Rattle.chart.specs.Chart.{encode, decode}
use Rattle.chart.specs.Lanes.{LaneRule}
use Rattle.model.specs.Limits.{search_limit}
use Rattle.mania.specs.Convert.{seed}
use Rattle.mania.specs.Convert as OfSong
use Rattle.mania.specs.Walked.{on_walk}
use Rattle.mania.specs.Chart.{written}
use Rattle.mania.specs.Job.{Answer, accepted as chart_of, refusal, under}
use Rattle.mania.specs.Demand.{Each, Lanes, OnDeck}
use Rattle.job.specs.Job.{columns, draws, ledger, notes, job}
use Rattle.job.specs.Demand.{after}
use Rattle.job.specs.Refusals.{Condition}
use Rattle.job.specs.Read.{chart_notes}
use Rattle.job.specs.Largest.{largest_chart}
use Rattle.convert.specs.Ends.{JobEnd, says, job_end}

-- the contract of `convert`: on these bytes, with this buffer lent and under this allowance, it answers r and leaves this chart
abbrev pub Answers : (bytes buffer : List ℕ) → ℕ → JobEnd → List ℕ → Type 0
Answers bytes buffer allowance r chart = job_end chart r ≡ job bytes buffer allowance

-- what an answer that says k then means: `Answers` of each end that says it
abbrev pub Says : (bytes buffer : List ℕ) → ℕ → Answer → List ℕ → Type 0
Says bytes buffer allowance k chart = record { answer = k; chart = chart } ≡ job bytes buffer allowance

-- an end by 12, an end other than by 12
abbrev pub Spent : JobEnd → Type 0
Spent r = (i : ℕ) × (n : ℕ) × (says r ≡ refusal Numbers.no_draw_left i n)

abbrev pub Other : JobEnd → Type 0
Other r = Spent r → ⊥

-- the bytes of the chart that the rules give
abbrev pub chart_bytes : (bytes buffer : List ℕ) → ℕ → List ℕ
chart_bytes bytes buffer a = encode Two (columns bytes) (draws bytes buffer a) (chart_notes bytes buffer a)

-- of calls on the same bytes with the same buffer lent
pub record Demand (bytes buffer : List ℕ) : Type 0 where
  -- Demand 1. A number is given only under its condition, and the buffer is then zero;
  pub condition : (a r i n : ℕ) (x : List ℕ) → Says bytes buffer a (refusal r i n) x → Condition bytes buffer a r i n × (x ≡ replicate (length buffer) 0)
  -- where a number's condition holds it is given;
  pub refuses : (a r i n : ℕ) (e : JobEnd) (x : List ℕ) → Answers bytes buffer a e x → Condition bytes buffer a r i n → says e ≡ refusal r i n
  -- where no condition holds there is a chart.
  pub else : (a : ℕ) (e : JobEnd) (x : List ℕ) → Answers bytes buffer a e x → ((r i n : ℕ) → Condition bytes buffer a r i n → ⊥) → (n : ℕ) × (g : ℕ) × (says e ≡ chart_of n g)
  -- 9 and 10 are never given
  pub never : (a r i n : ℕ) (x : List ℕ) → Says bytes buffer a (refusal r i n) x → (r ≡ Numbers.no_column → ⊥) × (r ≡ Numbers.off_deck → ⊥)
  -- Demand 2. A chart's bytes are those of the rules' columns, draws and notes, and the buffer's bytes after them keep their values;
  pub chart : (a n g : ℕ) (x : List ℕ) → Says bytes buffer a (chart_of n g) x → x ≡ written (chart_bytes bytes buffer a) buffer
  -- the answer is their number, which the buffer has, and the buffer's own length stays;
  pub long : (a n g : ℕ) (x : List ℕ) → Says bytes buffer a (chart_of n g) x → n ≡ length (chart_bytes bytes buffer a)
  pub room : (a n g : ℕ) (x : List ℕ) → Says bytes buffer a (chart_of n g) x → (n ≤ length buffer) × (length x ≡ length buffer)
  -- under an allowance that a u32 has, the chart reader finds the same columns, draws and notes.
  pub read : (a n g : ℕ) (x : List ℕ) → a < 2 ^ 32 → Says bytes buffer a (chart_of n g) x
      → decode (take n x) ≡ some (record { version = Two; columns = columns bytes; draws = draws bytes buffer a; notes = chart_notes bytes buffer a })
  -- Demand 3. 12 is given only where a draw found no value left, and the whole allowance was used.
  pub needed : (a i n : ℕ) (x : List ℕ) → Says bytes buffer a (refusal Numbers.no_draw_left i n) x → (s : Song) × (parse bytes ≡ accepted s) × (under s buffer a ≡ spent i n)
  pub whole : (a i n : ℕ) (x : List ℕ) → Says bytes buffer a (refusal Numbers.no_draw_left i n) x → n ≡ a
  -- After an end other than by 12, a call ends by 12 exactly where the allowance is below the draws made,
  pub below : (a b : ℕ) (r s : JobEnd) (x y : List ℕ) → Answers bytes buffer a r x → Answers bytes buffer b s y → Other r → b < draws bytes buffer a → Spent s
  pub only : (a b : ℕ) (r s : JobEnd) (x y : List ℕ) → Answers bytes buffer a r x → Answers bytes buffer b s y → Other r → Spent s → b < draws bytes buffer a
  -- and from them on it has the same answer and leaves the same bytes.
  pub same : (a b : ℕ) (r s : JobEnd) (x y : List ℕ) → Answers bytes buffer a r x → Answers bytes buffer b s y → Other r → draws bytes buffer a ≤ b → (r ≡ s) × (x ≡ y)
  -- Draws are steps of the generator from the seed's state. Their number stands in a refusal, or in the chart's header.
  pub counted : (a : ℕ) (s : Song) → parse bytes ≡ accepted s
      → after (on_walk (OfSong.convert s (length buffer)) (tallied a 0 (seeded (seed s.settings))))
      ≡ tallied (a - draws bytes buffer a) (largest (ledger bytes buffer a).searches) (steps (draws bytes buffer a) (seeded (seed s.settings)))
  pub told : (a r i n : ℕ) (x : List ℕ) → Says bytes buffer a (refusal r i n) x → n ≡ draws bytes buffer a
  -- A chart comes with the most draws of one search, none of which passes the limit; each draw is one of a search or outside every search.
  pub longest : (a n g : ℕ) (x : List ℕ) → Says bytes buffer a (chart_of n g) x → (g ≡ largest (ledger bytes buffer a).searches) × (g ≤ search_limit)
  pub divided : (a : ℕ) → sum (ledger bytes buffer a).searches + (ledger bytes buffer a).outside ≡ draws bytes buffer a
  -- Of a chart, each note lies on the deck, and no two notes made from one object share a lane.
  pub deck : (a n g : ℕ) (x : List ℕ) → Says bytes buffer a (chart_of n g) x
      → (1 ≤ columns bytes) × (columns bytes ≤ 9) × Each (Each (OnDeck (columns bytes))) (notes bytes buffer a)
  pub lanes : (a n g : ℕ) (x : List ℕ) → Says bytes buffer a (chart_of n g) x → Each Lanes (notes bytes buffer a)
  -- So it is by the chart's bytes alone, whose notes name their objects.
  pub lane_rule : (a n g : ℕ) (x : List ℕ) → a < 2 ^ 32 → Says bytes buffer a (chart_of n g) x → LaneRule (take n x)
  -- no chart is longer than the largest, and a buffer as long is never too short
  pub largest_chart_law : (a n g : ℕ) (x : List ℕ) → Says bytes buffer a (chart_of n g) x → n ≤ largest_chart
  pub enough : largest_chart ≤ length buffer → (a i n : ℕ) (x : List ℕ) → Says bytes buffer a (refusal Numbers.chart_too_short i n) x → ⊥
