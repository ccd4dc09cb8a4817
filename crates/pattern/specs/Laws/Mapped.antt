-- What a `?` behind a `map_err` tells of the call before both. Assumes nothing.
use Rattle.std.specs.Prelude.{◌≡◌, refl, Result, Ok, Err, IsErrAnd}
use Rattle.std.specs.Result.{MatchResult}
use Rattle.std.proofs.Common.{sym, ap, subst, ◌∙◌}

module _ {A E D : Type 0} (P : E → D → Type 0) (r : Result A E) (m : Result A D) (h : MatchResult r (λ x. m ≡ Ok x) (λ e. IsErrAnd m (P e))) where
  -- it went on: the value is the call's own
  pub kept : (x : A) → m ≡ Ok x → r ≡ Ok x
  kept x e = go r h
    where
      go : (r : Result A E) → MatchResult r (λ x. m ≡ Ok x) (λ e. IsErrAnd m (P e)) → r ≡ Ok x
      go (Ok y) k = ap (λ (n : Result A D). elim n [ Ok z ↦ Ok z | Err f ↦ Ok y ]) (sym k ∙ e)
      go (Err y) k = absurd (subst (λ n. IsErrAnd n (P y)) e k)

  -- it left: its refusal is made of the call's
  pub mapped : (f : D) → m ≡ Err f → (y : E) × (r ≡ Err y) × P y f
  mapped f e = go r h
    where
      go : (r : Result A E) → MatchResult r (λ x. m ≡ Ok x) (λ e. IsErrAnd m (P e)) → (y : E) × (r ≡ Err y) × P y f
      go (Ok y) k = absurd (subst (λ n. IsErrAnd n (λ (g : D). g ≡ g)) (sym e ∙ k) refl)
      go (Err y) k = (y, refl, subst (λ n. IsErrAnd n (P y)) e k)
