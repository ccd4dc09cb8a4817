-- How a function that places notes ends where a call's refusal leaves it, and where it answers as another rule does. Assumes nothing.
use Rattle.std.specs.Prelude.{◌≡◌, ℕ, ◌≤◌, ◌<◌, List, Result, Err, IsErrAnd}
use Rattle.std.proofs.Common.{sym, ap, ◌∙◌, le_trans, zero-le}
use Rattle.std.proofs.lemmas.Result.{err_from_is_err_and}
use Rattle.rules.specs.Coded.{code}
use Rattle.rules.specs.Rule.{◌>>=◌}
use Rattle.rules.specs.Refusal.{ObjectRule}
use Rattle.random.specs.Play.{Answer, refused, on}
use Rattle.random.specs.Answers.{answer}
use Rattle.random.specs.Laws.On.{refused_bind}
use Rattle.random.specs.declared.Draws.{Draws}
use Rattle.random.specs.declared.Refused.{Refused}
use Rattle.random.specs.Laws.Try.{exit}
use Rattle.mania.specs.declared.SliderNote.{SliderNote}
use Rattle.mania.specs.Pattern.{Pattern}
use Rattle.pattern.specs.Answers.{pattern}
use Rattle.pattern.specs.declared.Pattern as Lent
use Rattle.slider_notes.specs.declared.Reached.{Reached}
use Rattle.slider_notes.specs.Words.{of_word}
use Rattle.slider_notes.specs.Answers.{reached_by, Places, Reaches}

module _ (words : List ℕ) (e : Refused) where
  pub stops : (r : Result (Lent.Pattern × Draws) Refused) → IsErrAnd r (λ y. y ≡ e) → (a : Answer ℕ (Pattern SliderNote)) (most : ℕ)
      → a ≡ refused (code e.refusal) e.draws → Places words a most r
  stops r h a most w = let p = err_from_is_err_and r h in record { says = exit (pattern of_word words) r e h ∙ sym w; few = rw p.1 zero-le }

  pub stops_at : (r : Result (Reached × Draws) Refused) → IsErrAnd r (λ y. y ≡ e) → (a : Answer ℕ (ℕ × Pattern SliderNote)) (most columns : ℕ) → 0 < columns
      → a ≡ refused (code e.refusal) e.draws → Reaches words a most columns r
  stops_at r h a most columns l w = let p = err_from_is_err_and r h in record { says = exit (reached_by words) r e h ∙ sym w; few = rw p.1 zero-le; deck = rw p.1 l }

-- its exit is the rule's, after a call that answers as the rule begins
pub leaves : {B X : Type 0} (read : B → X) (m : ObjectRule X) (k : X → ObjectRule (Pattern SliderNote)) (d : Draws) (b : Result (B × Draws) Refused) (words : List ℕ) (e : Refused)
    (r : Result (Lent.Pattern × Draws) Refused) (most : ℕ) → answer read b ≡ on m d → b ≡ Err e → IsErrAnd r (λ y. y ≡ e) → Places words (on (m >>= k) d) most r
leaves read m k d b words e r most h w i = stops words e r i _ most (refused_bind m k d _ _ (sym h ∙ ap (answer read) w))

-- the answer of another rule, with more room
pub places : (words : List ℕ) (a b : Answer ℕ (Pattern SliderNote)) (m k : ℕ) (r : Result (Lent.Pattern × Draws) Refused) → Places words a m r → a ≡ b → m ≤ k
    → Places words b k r
places words a b m k r l e h = record { says = l.says ∙ e; few = le_trans l.few h }
