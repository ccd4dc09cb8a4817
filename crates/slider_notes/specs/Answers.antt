-- What each case of an answer of the code means, with the buffer as it is then. Assumes nothing.
use Rattle.std.specs.Prelude.{◌≡◌, ℕ, ◌≤◌, ◌<◌, List, Result, Ok, Err}
use Rattle.random.specs.Play.{Answer}
use Rattle.random.specs.Answers.{answer}
use Rattle.random.specs.declared.Draws.{Draws}
use Rattle.random.specs.declared.Refused.{Refused}
use Rattle.mania.specs.declared.SliderNote.{SliderNote}
use Rattle.mania.specs.Pattern.{Pattern}
use Rattle.slider_notes.specs.Words.{of_word}
use Rattle.pattern.specs.Answers.{pattern, placed}
use Rattle.pattern.specs.declared.Pattern as Lent
use Rattle.slider_notes.specs.declared.Reached.{Reached}

-- the column that was reached, and the pattern
abbrev pub reached_by : List ℕ → Reached → ℕ × Pattern SliderNote
reached_by words x = (x.column, pattern of_word words x.pattern)

abbrev pub reached : List ℕ → Result (Reached × Draws) Refused → Answer ℕ (ℕ × Pattern SliderNote)
reached words r = answer (reached_by words) r

-- how many notes there are
abbrev pub many : Result (Lent.Pattern × Draws) Refused → ℕ
many (Ok (p, d)) = p.count
many (Err e) = 0

abbrev pub many' : Result (Reached × Draws) Refused → ℕ
many' (Ok (x, d)) = x.pattern.count
many' (Err e) = 0

-- the column that was reached
abbrev pub at : Result (Reached × Draws) Refused → ℕ
at (Ok (x, d)) = x.column
at (Err e) = 0

-- the answer is the rule's, and there are at most so many notes
pub record Places (exit : List ℕ) (answer : Answer ℕ (Pattern SliderNote)) (most : ℕ) (r : Result (Lent.Pattern × Draws) Refused) : Type 0 where
  pub says : placed of_word exit r ≡ answer
  pub few : many r ≤ most

-- the same, and the column is on the deck
pub record Reaches (exit : List ℕ) (answer : Answer ℕ (ℕ × Pattern SliderNote)) (most columns : ℕ) (r : Result (Reached × Draws) Refused) : Type 0 where
  pub says : reached exit r ≡ answer
  pub few : many' r ≤ most
  pub deck : at r < columns
