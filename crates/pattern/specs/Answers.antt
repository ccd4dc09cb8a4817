-- What each case of an answer of the code means. Notes stand in a lent buffer, one word a note; `read` gives the note of a word.
-- Assumes nothing.
use Rattle.std.specs.Prelude.{◌≡◌, ℕ, ◌%◌, ◌^◌, ◌≤◌, List, map, take, Result, Ok, Err}
use Rattle.random.specs.Play.{Answer}
use Rattle.random.specs.Answers.{answer}
use Rattle.random.specs.declared.Draws.{Draws}
use Rattle.random.specs.declared.Refused.{Refused}
use Rattle.mania.specs.declared.Note.{Note}
use Rattle.mania.specs.Made.{Made}
use Rattle.mania.specs.Pattern.{Pattern}
use Rattle.mania.specs.PatternGenerator.{Searched}
use Rattle.pattern.specs.declared.Found.{Found}
use Rattle.pattern.specs.declared.Pattern as Lent
use Rattle.pattern.specs.declared.Made as LentMade

abbrev pub search_end : Result (Found × Draws) Refused → Answer ℕ Searched
search_end r = answer (λ (f : Found). record { column = f.column; draws = f.made }) r

-- a word's column: its lowest 4 bits, whichever generator wrote it
abbrev pub column_of : ℕ → ℕ
column_of w = w % 2 ^ 4

-- the pattern whose notes are the first words of a buffer
unfoldable pub pattern : {A : Type 0} → (ℕ → A) → List ℕ → Lent.Pattern → Pattern A
pattern read words p = record { mask = p.mask; last = p.last; notes = map read (take p.count words) }

abbrev pub placed : {A : Type 0} → (ℕ → A) → List ℕ → Result (Lent.Pattern × Draws) Refused → Answer ℕ (Pattern A)
placed read words r = answer (pattern read words) r

-- a pattern has at most n notes
abbrev pub AtMost : ℕ → Result (Lent.Pattern × Draws) Refused → Type 0
AtMost n (Ok (p, d)) = p.count ≤ n
AtMost n (Err e) = Unit {0}

-- an object's notes in walk order, and what the next object meets
abbrev pub made_by : (ℕ → Note) → List ℕ → LentMade.Made → Made
made_by read words m =
    record { notes = map read (take m.pattern.count words); mask = m.pattern.mask; last = m.pattern.last; stair = m.stair }

abbrev pub object_end : (ℕ → Note) → List ℕ → Result (LentMade.Made × Draws) Refused → Answer ℕ Made
object_end read words r = answer (made_by read words) r

-- how many notes an object has
abbrev pub noted : Result (LentMade.Made × Draws) Refused → ℕ
noted (Ok (m, d)) = m.pattern.count
noted (Err e) = 0

-- the answer of a generator is its rule's, and there are at most so many notes
pub record Generates (read : ℕ → Note) (exit : List ℕ) (answer : Answer ℕ Made) (most : ℕ) (r : Result (LentMade.Made × Draws) Refused) : Type 0 where
  pub says : object_end read exit r ≡ answer
  pub few : noted r ≤ most
