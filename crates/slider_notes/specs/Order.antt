-- The notes of a slider in walk order, in a buffer. Assumes nothing.
use Rattle.std.specs.Prelude.{◌≡◌, ℕ, suc, ◌+◌, ◌≤◌, List, [], ◌∷◌, map, ◌++◌, eqb, length, take, if◌then◌else◌}
use Rattle.mania.specs.declared.SliderNote.{SliderNote}
use Rattle.mania.specs.Pattern.{Pattern, empty}
use Rattle.mania.specs.PathObject.{others, ending}
use Rattle.pattern.specs.Answers.{pattern}
use Rattle.pattern.specs.declared.Pattern as Lent
use Rattle.slider_notes.specs.Words.{of_word}

-- how many notes end at a time
unfoldable pub endings : ℕ → List SliderNote → ℕ
endings end [] = 0
endings end (b ∷ bs) = if eqb b.end end then suc (endings end bs) else endings end bs

-- the first k notes of a buffer are those of n words that do not end at a time
pub record Others (src : List ℕ) (n end : ℕ) (exit : List ℕ) (k : ℕ) : Type 0 where
  pub is : map of_word (take k exit) ≡ others end (map of_word (take n src))
  pub few : k ≤ n
  pub rest : k + endings end (map of_word (take n src)) ≡ n

-- those of n words that end at a time were added to a pattern
pub record Endings (src : List ℕ) (n end : ℕ) (entry exit : List ℕ) (p r : Lent.Pattern) : Type 0 where
  pub is : pattern of_word exit r ≡ ending end (map of_word (take n src)) (pattern of_word entry p)
  pub many : r.count ≡ p.count + endings end (map of_word (take n src))

-- `split` of PathObject in whole milliseconds: the notes in walk order, and the mask and last column that the next object meets
unfoldable pub walk_order : ℕ → Pattern SliderNote → Pattern SliderNote
walk_order end p =
    let q = ending end p.notes empty in
    let notes = others end p.notes ++ q.notes in
    if eqb (length p.notes) 1 then record { mask = p.mask; last = p.last; notes = notes } else record { mask = q.mask; last = q.last; notes = notes }

-- a pattern was put into walk order
pub record Ordered (end : ℕ) (entry exit : List ℕ) (p r : Lent.Pattern) : Type 0 where
  pub is : pattern of_word exit r ≡ walk_order end (pattern of_word entry p)
  pub same : r.count ≡ p.count
