-- The laws of rules played from a state, for the rules of one object. Assumes nothing.
use Rattle.std.specs.Prelude.{◌≡◌, ℕ}
use Rattle.rules.specs.Rule.{◌>>=◌}
use Rattle.rules.specs.Refusal.{ObjectRule, number, spent_number}
use Rattle.random.specs.Play.{found, refused, on}
use Rattle.random.specs.declared.Draws.{Draws}
use Rattle.random.specs.Laws.Gives.{Gives, play_gave}
use Rattle.random.specs.Laws.Play as Play

module _ {A B : Type 0} (m : ObjectRule A) (f : A → ObjectRule B) (d : Draws) where
  pub found_bind : (a : A) (e : Draws) → on m d ≡ found a e → on (m >>= f) d ≡ on (f a) e
  found_bind a e h = Play.found_bind (λ p. spent_number) number m f d a e h

  pub refused_bind : (x : ℕ) (e : Draws) → on m d ≡ refused x e → on (m >>= f) d ≡ refused x e
  refused_bind x e h = Play.refused_bind (λ p. spent_number) number m f d x e h

-- a rule of two rules in a row, and then a third
pub bind_assoc : {A B C : Type 0} (m : ObjectRule A) (k : A → ObjectRule B) (f : B → ObjectRule C) (d : Draws) → on ((m >>= k) >>= f) d ≡ on (m >>= (λ a. k a >>= f)) d
bind_assoc m k f d = Play.bind_assoc (λ p. spent_number) number m k f d

-- what holds of all that a rule can give holds of what it gave
pub gives : {A : Type 0} (Q : A → Type 0) (m : ObjectRule A) → Gives Q m → (d : Draws) (a : A) (e : Draws) → on m d ≡ found a e → Q a
gives Q m g d a e h = play_gave (λ p. spent_number) number Q m g d a e h
