-- Demand 3, of every record, chart buffer and allowance. Assumes nothing.
use Rattle.std.specs.Prelude.{◌≡◌, ℕ, ◌+◌, ◌-◌, ◌≤◌, ◌<◌, List, length}
use Rattle.rules.specs.Refusal.{spent_number}
use Rattle.rules.specs.Rule.{spent}
use Rattle.rules.specs.Ledger.{sum, largest}
use Rattle.random.specs.Generator.{seeded, steps}
use Rattle.random.specs.Play.{Answer, found, refused, tallied}
use Rattle.random.specs.declared.Draws.{Draws}
use Rattle.model.specs.Song.{Song}
use Rattle.model.specs.Limits.{search_limit}
use Rattle.mania.specs.Convert.{seed, convert}
use Rattle.mania.specs.Walked.{Stop, on_walk}
use Rattle.mania.specs.Job.{refusal, under}
use Rattle.mania.specs.Job as OfSong
use Rattle.mania.specs.Demand.{Spent, Other, Each, Lanes, OnDeck}
use Rattle.record.specs.Record.{accepted, parse}
use Rattle.job.specs.Job.{columns, draws, ledger, notes, job}

-- the generator's state and the draws left, where rules end that were played from a state
abbrev pub after : {A : Type 0} → Answer Stop A → Draws
after (found a d) = d
after (refused r d) = d

-- Of the record's bytes with a buffer lent.
pub record Demand (bytes buffer : List ℕ) : Type 0 where
  -- a job that ends by 12 has used its whole allowance
  pub whole : (a : ℕ) → Spent (job bytes buffer a) → draws bytes buffer a ≡ a
  -- after an end other than by 12, a job ends by 12 exactly where the allowance is below the draws made
  pub below : (a b : ℕ) → Other (job bytes buffer a) → b < draws bytes buffer a → Spent (job bytes buffer b)
  pub only : (a b : ℕ) → Other (job bytes buffer a) → Spent (job bytes buffer b) → b < draws bytes buffer a
  -- and every other allowance gives the same answer and the same bytes
  pub same : (a b : ℕ) → Other (job bytes buffer a) → draws bytes buffer a ≤ b → job bytes buffer b ≡ job bytes buffer a
  -- 12 is the answer only where a draw found no value left
  pub needed : (a i n : ℕ) → (job bytes buffer a).answer ≡ refusal spent_number i n → (s : Song) × (parse bytes ≡ accepted s) × (under s buffer a ≡ spent i n)
  -- the draws are steps: the generator, from the seed's state, has made as many, and as many fewer are left; the longest search is the tally's
  pub counted : (a : ℕ) (s : Song) → parse bytes ≡ accepted s
      → after (on_walk (convert s (length buffer)) (tallied a 0 (seeded (seed s.settings))))
      ≡ tallied (a - draws bytes buffer a) (largest (ledger bytes buffer a).searches) (steps (draws bytes buffer a) (seeded (seed s.settings)))
  -- the sum over searches, and the draws made outside every search, are all draws
  pub divided : (a : ℕ) → sum (ledger bytes buffer a).searches + (ledger bytes buffer a).outside ≡ draws bytes buffer a
  -- an accepted job reports the most draws of one search, 0 where no search drew
  pub longest : (a n g : ℕ) → (job bytes buffer a).answer ≡ OfSong.accepted n g → g ≡ largest (ledger bytes buffer a).searches
  -- no search makes more draws than its limit
  pub few : (a : ℕ) → largest (ledger bytes buffer a).searches ≤ search_limit
  -- a refusal tells them
  pub told : (a r i n : ℕ) → (job bytes buffer a).answer ≡ refusal r i n → n ≡ draws bytes buffer a
  -- in the chart of an accepted job each note lies on the deck, which has 1 to 9 columns
  pub deck : (a n g : ℕ) → (job bytes buffer a).answer ≡ OfSong.accepted n g
      → (1 ≤ columns bytes) × (columns bytes ≤ 9) × Each (Each (OnDeck (columns bytes))) (notes bytes buffer a)
  -- and no two notes made from one object share a lane
  pub lanes : (a n g : ℕ) → (job bytes buffer a).answer ≡ OfSong.accepted n g → Each Lanes (notes bytes buffer a)
