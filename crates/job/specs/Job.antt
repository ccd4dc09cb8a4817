-- What a job gives, from the bytes of a record, a chart buffer and an allowance. Assumes nothing.
use Rattle.std.specs.Prelude.{ℕ, List, []}
use Rattle.rules.specs.Rule.{Outcome, ended, spent}
use Rattle.rules.specs.Rule as Rule
use Rattle.rules.specs.Ledger.{Ledger, nothing}
use Rattle.mania.specs.declared.Note.{Note}
use Rattle.mania.specs.Convert.{AtObject, columns_of}
use Rattle.mania.specs.Job.{Job, refusing, under, ledger_under}
use Rattle.mania.specs.Job as OfSong
use Rattle.mania.specs.Demand as Draws
use Rattle.record.specs.Record.{Parsed, refused, accepted, parse}

-- a refused record gives its number, at object 0 and without a draw; an accepted one gives its song's job
unfoldable pub job_of : Parsed → List ℕ → ℕ → Job
job_of (refused n) buffer allowance = refusing n 0 0 buffer
job_of (accepted s) buffer allowance = OfSong.job s buffer allowance

-- the answer, and the chart buffer as the job leaves it
unfoldable pub job : List ℕ → List ℕ → ℕ → Job
job bytes buffer allowance = job_of (parse bytes) buffer allowance

-- ---- what is claimed of it speaks of these

-- the column count; a refused record has none
unfoldable pub columns_in : Parsed → ℕ
columns_in (refused n) = 0
columns_in (accepted s) = columns_of s

unfoldable pub columns : List ℕ → ℕ
columns bytes = columns_in (parse bytes)

-- how many draws the job made: steps of the generator from the seed's state, none where no walk begins
unfoldable pub draws_of : Parsed → List ℕ → ℕ → ℕ
draws_of (refused n) buffer allowance = 0
draws_of (accepted s) buffer allowance = Draws.draws s buffer allowance

unfoldable pub draws : List ℕ → List ℕ → ℕ → ℕ
draws bytes buffer allowance = draws_of (parse bytes) buffer allowance

-- how the draws divide: those of each search, and those outside every search; none where no walk begins
unfoldable pub ledger_of : Parsed → List ℕ → ℕ → Ledger
ledger_of (refused n) buffer allowance = nothing
ledger_of (accepted s) buffer allowance = ledger_under s buffer allowance

unfoldable pub ledger : List ℕ → List ℕ → ℕ → Ledger
ledger bytes buffer allowance = ledger_of (parse bytes) buffer allowance

-- the notes made from each object, where the rules end with them
unfoldable pub notes_in : Outcome ℕ AtObject (List (List Note)) → List (List Note)
notes_in (ended nss n) = nss
notes_in (Rule.refused r n) = []
notes_in (spent i n) = []

unfoldable pub notes_of : Parsed → List ℕ → ℕ → List (List Note)
notes_of (refused n) buffer allowance = []
notes_of (accepted s) buffer allowance = notes_in (under s buffer allowance)

unfoldable pub notes : List ℕ → List ℕ → ℕ → List (List Note)
notes bytes buffer allowance = notes_of (parse bytes) buffer allowance
