-- What the exit of a `?` comes to in a function that gives notes: there are none, and the exit is the rule's. Assumes nothing.
use Rattle.std.specs.Prelude.{◌≡◌, ◌≤◌, ℕ, List, Result, Ok, Err, IsErrAnd}
use Rattle.std.proofs.Common.{arith}
use Rattle.rules.specs.Rule.{◌>>=◌}
use Rattle.rules.specs.Refusal.{ObjectRule}
use Rattle.random.specs.Play.{on}
use Rattle.random.specs.Answers.{answer}
use Rattle.random.specs.Laws.Try.{leaves}
use Rattle.random.specs.declared.Draws.{Draws}
use Rattle.random.specs.declared.Refused.{Refused}
use Rattle.mania.specs.declared.Note.{Note}
use Rattle.mania.specs.Made.{Made}
use Rattle.mania.specs.Pattern.{Pattern}
use Rattle.pattern.specs.Answers.{placed, AtMost, noted, Generates}
use Rattle.pattern.specs.declared.Pattern as Lent
use Rattle.pattern.specs.declared.Made as LentMade

pub none_placed : (n : ℕ) (e : Refused) (r : Result (Lent.Pattern × Draws) Refused) → IsErrAnd r (λ y. y ≡ e) → AtMost n r
none_placed n e (Ok x) h = absurd h
none_placed n e (Err y) h = tt

pub none_made : (n : ℕ) (e : Refused) (r : Result (LentMade.Made × Draws) Refused) → IsErrAnd r (λ y. y ≡ e) → noted r ≤ n
none_made n e (Ok x) h = absurd h
none_made n e (Err y) h = omega arith

module _ {A X : Type 0} (read : A → X) (m : ObjectRule X) where
  pub leaves_placed : {N : Type 0} (k : X → ObjectRule (Pattern N)) (d : Draws) (r : Result (A × Draws) Refused) (note : ℕ → N) (words : List ℕ) (n : ℕ) (e : Refused) (r' : Result (Lent.Pattern × Draws) Refused)
      → answer read r ≡ on m d → r ≡ Err e → IsErrAnd r' (λ y. y ≡ e) → (placed note words r' ≡ on (m >>= k) d) × AtMost n r'
  leaves_placed k d r note words n e r' h w i = (leaves read m k d r _ e r' h w i, none_placed n e r' i)

  pub leaves_made : (k : X → ObjectRule Made) (d : Draws) (r : Result (A × Draws) Refused) (note : ℕ → Note) (words : List ℕ) (n : ℕ) (e : Refused) (r' : Result (LentMade.Made × Draws) Refused)
      → answer read r ≡ on m d → r ≡ Err e → IsErrAnd r' (λ y. y ≡ e) → Generates note words (on (m >>= k) d) n r'
  leaves_made k d r note words n e r' h w i = record { says = leaves read m k d r _ e r' h w i; few = none_made n e r' i }
