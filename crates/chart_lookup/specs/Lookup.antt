-- The lookups of notes around a moment.
-- Assumes nothing.
use Rattle.std.specs.Prelude.{Bool, not, ◌&&◌, cond, List, [], ◌∷◌, ◌++◌, ℕ, suc, ◌+◌, leb, length, drop, Float, Some, None, Result, Ok, Err}
use Rattle.std.specs.Prelude as Std
use Rattle.std.proofs.Math.Option.{Option, none, some}
use Rattle.std.specs.Float.Ieee.{lt, le}
use Rattle.std.specs.Float.Ieee.Scale.{finite}
use Rattle.rules.specs.Numbers as Numbers
use Rattle.rules.specs.Coded.{code}
use Rattle.rules.specs.declared.Refusal.{Refusal}
use Rattle.floats.specs.Ticks.{ticks}
use Rattle.chart.specs.declared.Note.{Note}
use Rattle.chart.specs.Time.{time}
use Rattle.chart.specs.Chart.{Score, decode}
use Rattle.exact_times.specs.Instants.{instant, covers_at}

-- document 02's answers: the number of a refusal, that nothing is found, or a number of places
pub data Outcome : Type 0 where
  refused : ℕ → Outcome
  nothing : Outcome
  found : ℕ → Outcome

-- the meaning of each case of the code's answer
abbrev pub told : Result (Std.Option ℕ) Refusal → Outcome
told (Ok (Some k)) = found k
told (Ok None) = nothing
told (Err r) = refused (code r)

-- ---- which notes are asked for

-- those that start within two times, ends included; or the holds that cover an instant
pub data Wanted : Type 0 where
  Starting : Float → Float → Wanted
  Covering : Float → Wanted

-- the times are finite, and the first is not above the second
unfoldable pub times_ok : Wanted → Bool
times_ok (Starting from to) = finite from && finite to && not (lt to from)
times_ok (Covering at) = finite at

-- a note that starts from one time to another, ends included; a hold that covers an instant, ends included and its end exact
unfoldable pub wanted : Wanted → Note → Bool
wanted (Starting from to) n = le from (time n.start) && le (time n.start) to
wanted (Covering at) n = n.hold && covers_at (ticks (time n.start)) (ticks (time n.start) + ticks (time n.duration)) (instant at)

-- ---- lists of places

-- the places, counted from i, of the notes that pass a test
unfoldable pub places : (Note → Bool) → ℕ → List Note → List ℕ
places p i [] = []
places p i (n ∷ ns) = cond (p n) (i ∷ places p (suc i) ns) (places p (suc i) ns)

-- a list with the places at its start; later entries keep their values
unfoldable pub filled : List ℕ → List ℕ → List ℕ
filled ps list = ps ++ drop (length ps) list

-- how many there are
unfoldable pub counted : List ℕ → Outcome
counted [] = nothing
counted (p ∷ ps) = found (length (p ∷ ps))

-- the answer, and the list afterwards
unfoldable pub given : List ℕ → List ℕ → Outcome × List ℕ
given ps list = cond (leb (length ps) (length list)) (counted ps, filled ps list) (refused Numbers.list_too_short, list)

unfoldable pub listed : Wanted → List Note → List ℕ → Outcome × List ℕ
listed w ns list = cond (times_ok w) (given (places (wanted w) 0 ns) list) (refused Numbers.times, list)

unfoldable pub looked : Option Score → Wanted → List ℕ → Outcome × List ℕ
looked none w list = (refused Numbers.broken_chart, list)
looked (some c) w list = listed w c.notes list

unfoldable pub listing : List ℕ → Wanted → List ℕ → Outcome × List ℕ
listing s w list = looked (decode s) w list
