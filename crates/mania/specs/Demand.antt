-- What demand 3 speaks of: draws, lanes and the deck. Assumes nothing.
use Rattle.std.specs.Prelude.{◌≡◌, ℕ, ◌<◌, List}
use Rattle.rules.specs.Refusal.{spent_number}
use Rattle.rules.specs.Rule.{taken}
use Rattle.chart.specs.Lanes.{Extent, extent_of, Apart}
use Rattle.mania.specs.declared.Note.{Note}
use Rattle.model.specs.Song.{Song}
pub use Rattle.rules.specs.Each.{Each, EveryTwo}
use Rattle.mania.specs.Job.{refusal, Job, under}

-- ---- draws

-- how many draws a job made: values that its rules took, each a step of the generator
unfoldable pub draws : Song → List ℕ → ℕ → ℕ
draws s buffer allowance = taken (under s buffer allowance)

-- an end by 12
unfoldable pub Spent : Job → Type 0
Spent j = (i : ℕ) × (n : ℕ) × (j.answer ≡ refusal spent_number i n)

-- an end other than by 12
unfoldable pub Other : Job → Type 0
Other j = (i n : ℕ) → j.answer ≡ refusal spent_number i n → ⊥

-- ---- lanes

-- what a note covers
abbrev pub extent : Note → Extent
extent n = extent_of n.column n.hold n.start n.duration

-- no two notes share a lane; equal notes count as two
abbrev pub Lanes : List Note → Type 0
Lanes ns = EveryTwo (λ n m. Apart (extent n) (extent m)) ns

-- ---- the deck

-- a note lies on a deck of so many columns
abbrev pub OnDeck : ℕ → Note → Type 0
OnDeck columns n = n.column < columns
