-- What a `?` comes to where a call answers as its rule does. Assumes nothing.
use Rattle.std.specs.Prelude.{◌≡◌, Result, Ok, Err, IsErrAnd}
use Rattle.std.proofs.Common.{sym, ap, ◌∙◌}
use Rattle.std.proofs.lemmas.Result.{err_from_is_err_and}
use Rattle.rules.specs.Rule.{◌>>=◌}
use Rattle.rules.specs.Refusal.{ObjectRule}
use Rattle.rules.specs.Coded.{code}
use Rattle.random.specs.Play.{refused, on}
use Rattle.random.specs.Answers.{answer}
use Rattle.random.specs.declared.Draws.{Draws}
use Rattle.random.specs.declared.Refused.{Refused}
use Rattle.random.specs.Laws.On.{found_bind, refused_bind}

-- its exit answers the call's refusal
pub exit : {B Y : Type 0} (read : B → Y) (r : Result (B × Draws) Refused) (e : Refused) → IsErrAnd r (λ y. y ≡ e) → answer read r ≡ refused (code e.refusal) e.draws
exit read r e h = let p = err_from_is_err_and r h in rw (p.1, p.2)

module _ {A X Y : Type 0} (read : A → X) (m : ObjectRule X) (k : X → ObjectRule Y) (d : Draws) (r : Result (A × Draws) Refused) where
  -- after it the rule goes on
  pub goes_on : (a : A) (after : Draws) → answer read r ≡ on m d → r ≡ Ok (a, after) → on (m >>= k) d ≡ on (k (read a)) after
  goes_on a after h w = found_bind m k d _ _ (sym h ∙ ap (answer read) w)

  -- its exit is the rule's
  pub leaves : {B : Type 0} (read' : B → Y) (e : Refused) (r' : Result (B × Draws) Refused) → answer read r ≡ on m d → r ≡ Err e → IsErrAnd r' (λ y. y ≡ e) → answer read' r' ≡ on (m >>= k) d
  leaves read' e r' h w i = exit read' r' e i ∙ sym (refused_bind m k d _ _ (sym h ∙ ap (answer read) w))
