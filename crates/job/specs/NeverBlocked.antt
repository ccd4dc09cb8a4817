-- Refusals 9 and 10 never come out of a job, only out of the single-object entry. Assumes nothing.
use Rattle.std.specs.Prelude.{◌≡◌, ℕ, List}
use Rattle.rules.specs.Numbers as Numbers
use Rattle.rules.specs.Rule.{ended, run}
use Rattle.random.specs.Generator.{values, seeded}
use Rattle.model.specs.Song.{Song}
use Rattle.mania.specs.Convert.{Walk, seed, columns_of}
use Rattle.mania.specs.Job.{refusal}
use Rattle.mania.specs.Reached.{Reached, reaches}
use Rattle.record.specs.Record.{accepted, parse}
use Rattle.job.specs.Job.{job}

-- For a record's bytes and a chart buffer, under every allowance:
pub record NeverBlocked (bytes buffer : List ℕ) : Type 0 where
  -- no search for a column lacks a valid one,
  pub nine : (a i n : ℕ) → (job bytes buffer a).answer ≡ refusal Numbers.no_column i n → ⊥
  -- and no column is off the deck.
  pub ten : (a i n : ℕ) → (job bytes buffer a).answer ≡ refusal Numbers.off_deck i n → ⊥
  -- The reason: the song's walk comes only to previous patterns that are `Reached`. `Reasons`, in mania's specs/Reached.antt, shows that this suffices.
  pub reached : (s : Song) → parse bytes ≡ accepted s → (k a n : ℕ) (w : Walk) → run (reaches s k) (values a (seeded (seed s.settings))) ≡ ended w n → Reached (columns_of s) w.prev
