-- What each case of the single-object entry's answer means, with the buffer as it is then. Assumes nothing.
use Rattle.std.specs.Prelude.{◌≡◌, ℕ, ◌-◌, ◌*◌, true, false, List, map, ltb, length, take, Result, Ok, Err}
use Rattle.rules.specs.Coded.{code}
use Rattle.rules.specs.declared.Refusal.TheVariants.{ChartTooShort}
use Rattle.random.specs.declared.Random.{Random}
use Rattle.random.specs.declared.Draws.{Draws}
use Rattle.model.specs.declared.Object.{Object}
use Rattle.mania.specs.Chart.{body, written}
use Rattle.mania.specs.Single.{Single, made, refusal}
use Rattle.pattern.specs.declared.Made as Lent
use Rattle.object.specs.Notes.{note_at}
use Rattle.single.specs.declared.Converted.{Converted}
use Rattle.single.specs.declared.ObjectRefused.{ObjectRefused}
use Rattle.chart.specs.Layout.{note_size}

abbrev pub single_end : List ℕ → Result Converted ObjectRefused → Single
single_end notes (Ok m) = record { answer = made m.count m.mask m.last m.stair m.random m.draws; notes = notes }
single_end notes (Err r) = record { answer = refusal (code r.refusal) r.random; notes = notes }

-- what the entry answers of what an object made, and of a buffer that is too short for it
abbrev pub kept_as : Lent.Made → ℕ → Draws → Result Converted ObjectRefused
kept_as m allowance e =
    Ok (record {
      count = m.pattern.count;
      mask = m.pattern.mask;
      last = m.pattern.last;
      stair = m.stair;
      random = e.random;
      draws = allowance - e.tally.left;
    })

abbrev pub no_room : Random → Result Converted ObjectRefused
no_room lent = Err (record { refusal = ChartTooShort; random = lent })

-- the notes are written from the buffer's start, as those of object 0, or it is too short for them and stays as it was
pub data Keeps (entry exit words : List ℕ) (o : Object) (m : Lent.Made) (lent : Random) (allowance : ℕ) (e : Draws) (r : Result Converted ObjectRefused) : Type 0 where
  full : ltb (length entry) (note_size * m.pattern.count) ≡ true → exit ≡ entry → r ≡ no_room lent → Keeps entry exit words o m lent allowance e r
  kept : ltb (length entry) (note_size * m.pattern.count) ≡ false → exit ≡ written (body 0 (map (note_at o) (take m.pattern.count words))) entry
      → r ≡ kept_as m allowance e → Keeps entry exit words o m lent allowance e r
