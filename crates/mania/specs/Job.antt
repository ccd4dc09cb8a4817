-- What a job gives on a song that was read: its answer and the bytes of the chart buffer. Assumes nothing.
use Rattle.std.specs.Prelude.{ℕ, List, [], length, replicate}
use Rattle.rules.specs.Rule.{Outcome, ended, refused, spent, run}
use Rattle.rules.specs.Ledger.{Ledger, ledger, largest}
use Rattle.rules.specs.Refusal.{number, spent_number}
use Rattle.random.specs.Generator.{values, seeded}
use Rattle.mania.specs.declared.Note.{Note}
use Rattle.model.specs.Song.{Song}
use Rattle.mania.specs.Convert.{AtObject, seed, columns_of, convert}
use Rattle.chart.specs.declared.Version.TheVariants.{Two}
use Rattle.chart.specs.Chart.{encode}
use Rattle.chart.specs.Order.{arranged}
use Rattle.mania.specs.Chart.{patterns_from, written}

-- an accepted job's answer is the chart's length in bytes and the most draws of one search, a refused one's its number, the object's index and the draws
-- so far
pub data Answer : Type 0 where
  accepted : ℕ → ℕ → Answer
  refusal : ℕ → ℕ → ℕ → Answer

-- the answer, and the chart buffer as the job leaves it
pub record Job : Type 0 where
  pub answer : Answer
  pub chart : List ℕ

-- a refusal by its number, at an object's index and after so many draws, zeroes the buffer
unfoldable pub refusing : ℕ → ℕ → ℕ → List ℕ → Job
refusing r i draws buffer = record { answer = refusal r i draws; chart = replicate (length buffer) 0 }

-- a job's end, from the draws of its longest search and from how the rules end: 12 is a draw that found no value left
unfoldable pub ending : ℕ → List ℕ → ℕ → Outcome ℕ AtObject (List (List Note)) → Job
ending columns buffer longest (ended nss n) =
    let chart = encode Two columns n (arranged [] (patterns_from 0 nss)) in
    record { answer = accepted (length chart) longest; chart = written chart buffer }
ending columns buffer longest (refused r n) = refusing (number r.refusal) r.object n buffer
ending columns buffer longest (spent i n) = refusing spent_number i n buffer

-- how the rules end under an allowance: they get the song, the buffer's length and the values of the first steps from the seed's state
unfoldable pub under : Song → List ℕ → ℕ → Outcome ℕ AtObject (List (List Note))
under s buffer allowance = run (convert s (length buffer)) (values allowance (seeded (seed s.settings)))

-- how the draws divide among searches
unfoldable pub ledger_under : Song → List ℕ → ℕ → Ledger
ledger_under s buffer allowance = ledger (convert s (length buffer)) (values allowance (seeded (seed s.settings)))

-- what the job gives
unfoldable pub job : Song → List ℕ → ℕ → Job
job s buffer allowance = ending (columns_of s) buffer (largest (ledger_under s buffer allowance).searches) (under s buffer allowance)
