-- What a rule of a walk comes to from a state of the generator: its refusals by their numbers, with the object's index. Assumes nothing.
use Rattle.std.specs.Prelude.{ℕ}
use Rattle.rules.specs.Rule.{Rule}
use Rattle.rules.specs.Refusal.{number, spent_number}
use Rattle.random.specs.Play.{Answer, play_on}
use Rattle.random.specs.declared.Draws.{Draws}
use Rattle.mania.specs.Convert.{AtObject}

-- where a walk stops: a number of document 01's table, and the object's index
pub record Stop : Type 0 where
  pub number : ℕ
  pub object : ℕ

-- the number r at object i
abbrev pub stop : ℕ → ℕ → Stop
stop i r = record { number = r; object = i }

-- 12 at the object whose draw found no value left
abbrev pub spent_at : ℕ → Stop
spent_at i = stop i spent_number

abbrev pub refused_at : AtObject → Stop
refused_at r = stop r.object (number r.refusal)

abbrev pub on_walk : {A : Type 0} → Rule ℕ AtObject A → Draws → Answer Stop A
on_walk m d = play_on spent_at refused_at m d
