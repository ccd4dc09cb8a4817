-- A word more in a buffer is a note more in the pattern that it means, so many words are so many notes, and a bound on them may be raised. Assumes nothing.
use Rattle.std.specs.Prelude.{◌≡◌, ℕ, ◌+◌, ◌≤◌, ◌<◌, List, [], ◌∷◌, ◌++◌, map, length, take, set, Result, Ok, Err}
use Rattle.std.proofs.Math.Path.{refl}
use Rattle.std.proofs.Common.{ap, ◌∙◌, add-one, arith, take-suc-set, length-take-le}
use Rattle.std.proofs.lemmas.List.{map-append, length-map}
use Rattle.mania.specs.Pattern.{empty}
use Rattle.pattern.specs.Answers.{pattern, AtMost}
use Rattle.random.specs.declared.Draws.{Draws}
use Rattle.random.specs.declared.Refused.{Refused}
use Rattle.pattern.specs.declared.Pattern as Lent

module _ {A : Type 0} (read : ℕ → A) where
  pub one_more : (words : List ℕ) (n w : ℕ) → n < length words → map read (take (n + 1) (set words n w)) ≡ map read (take n words) ++ read w ∷ []
  one_more words n w h =
      ap (λ (k : ℕ). map read (take k (set words n w))) (add-one n) ∙ ap (map read) (take-suc-set words n w h) ∙ map-append read (take n words) (w ∷ [])

  pub note_count_law : (words : List ℕ) (n : ℕ) → n ≤ length words → length (map read (take n words)) ≡ n
  note_count_law words n h = length-map (take n words) read ∙ length-take-le n words h

  pub empty_is : (words : List ℕ) → pattern read words (record { mask = 0; last = 0; count = 0 }) ≡ empty
  unfolding pattern empty
  empty_is words = refl

pub at_most_le : (n m : ℕ) → n ≤ m → (r : Result (Lent.Pattern × Draws) Refused) → AtMost n r → AtMost m r
at_most_le n m h (Ok (p, d)) l = omega arith
at_most_le n m h (Err e) l = tt
