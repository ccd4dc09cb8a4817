-- What holds of all that a rule can give: the steps of such a proof. Assumes nothing.
use Rattle.std.specs.Prelude.{if◌then◌else◌}
use mathlib.Core.Path.{◌≡◌, refl, ap, ◌∙◌}
use Prim.Native.Nat.{ℕ, ◌^◌, ◌<◌}
use mathlib.Core.Bool.{Bool, true, false}
use mathlib.Core.List.{List, [], ◌∷◌, ◌++◌}
use lib.Dec.{ltb}
use borrow.Author.Tests.{ltb-true}
use Rattle.rules.specs.Laws.Each.{each_map}
use Rattle.rules.specs.Rule.{Rule, give, refuse, draw, draw_until, ◌>>=◌, label, ended, run}
use Rattle.random.specs.Generator.{values}
use Rattle.random.specs.Play.{tallied, value}
use Rattle.random.specs.declared.Random.{Random}
use Rattle.random.specs.Laws.Gives.{Gives, bind_gives, play_gave}
use Rattle.random.specs.Laws.Play.{placed, play_run}
use Rattle.mania.specs.Pattern.{Pattern, put, add}
use Rattle.mania.specs.Demand.{Each, EveryTwo}

-- a name for it, so that antt finds the rule that is spoken of
pub record Makes {W R A : Type 0} (P : A → Type 0) (m : Rule W R A) : Type 0 where
  pub made : Gives P m

pub giving : {W R A : Type 0} {P : A → Type 0} {a : A} → P a → Makes {W = W} {R = R} P (give a)
giving h = record { made = h }

pub refusing : {W R A : Type 0} {P : A → Type 0} {r : R} → Makes {W = W} P (refuse r)
refusing = record { made = tt }

pub seq : {W R A B : Type 0} {P : A → Type 0} {Q : B → Type 0} {m : Rule W R A} {f : A → Rule W R B}
    → Makes P m → ((a : A) → P a → Makes Q (f a)) → Makes Q (m >>= f)
seq {P = P} {Q = Q} {m = m} {f = f} h g = record { made = bind_gives P Q f (λ a p. (g a p).made) m h.made }

pub by : {W R A : Type 0} {P : A → Type 0} (b : Bool) (m n : Rule W R A) → (b ≡ true → Makes P m) → (b ≡ false → Makes P n) → Makes P (if b then m else n)
by true m n h g = h refl
by false m n h g = g refl

-- nothing said of it
any_gives : {W R A : Type 0} (m : Rule W R A) → Gives (λ a. Unit {0}) m
any_gives (give a) = tt
any_gives (refuse r) = tt
any_gives (draw r k) = λ v l. any_gives (k v)
any_gives (draw_until w limit r test k) = λ v n l e. any_gives (k v n)

pub any : {W R A : Type 0} {m : Rule W R A} → Makes (λ a. Unit {0}) m
any {m = m} = record { made = any_gives m }

-- less said of it
less_gives : {W R A : Type 0} (P Q : A → Type 0) → ((a : A) → P a → Q a) → (m : Rule W R A) → Gives P m → Gives Q m
less_gives P Q f (give a) h = f a h
less_gives P Q f (refuse r) h = tt
less_gives P Q f (draw r k) h = λ v l. less_gives P Q f (k v) (h v l)
less_gives P Q f (draw_until w limit r test k) h = λ v n l e. less_gives P Q f (k v n) (h v n l e)

pub less : {W R A : Type 0} {P Q : A → Type 0} {m : Rule W R A} → Makes P m → ((a : A) → P a → Q a) → Makes Q m
less {P = P} {Q = Q} {m = m} h f = record { made = less_gives P Q f m h.made }

-- two things said of it
both_give : {W R A : Type 0} (P Q : A → Type 0) (m : Rule W R A) → Gives P m → Gives Q m → Gives (λ a. P a × Q a) m
both_give P Q (give a) h k = (h, k)
both_give P Q (refuse r) h k = tt
both_give P Q (draw r f) h k = λ v l. both_give P Q (f v) (h v l) (k v l)
both_give P Q (draw_until w limit r test f) h k = λ v n l e. both_give P Q (f v n) (h v n l e) (k v n l e)

pub both : {W R A : Type 0} {P Q : A → Type 0} {m : Rule W R A} → Makes P m → Makes Q m → Makes (λ a. P a × Q a) m
both {P = P} {Q = Q} {m = m} h k = record { made = both_give P Q m h.made k.made }

label_gives : {W W' R S A : Type 0} (P : A → Type 0) (f : W → W') (g : R → S) (m : Rule W R A) → Gives P m → Gives P (label f g m)
unfolding label
label_gives P f g (give a) h = h
label_gives P f g (refuse r) h = tt
label_gives P f g (draw r k) h = λ v l. label_gives P f g (k v) (h v l)
label_gives P f g (draw_until w limit r test k) h = λ v n l e. label_gives P f g (k v n) (h v n l e)

pub labelled : {W W' R S A : Type 0} {P : A → Type 0} (f : W → W') (g : R → S) {m : Rule W R A} → Makes P m → Makes P (label f g m)
labelled {P = P} f g {m = m} h = record { made = label_gives P f g m h.made }

-- a value is below 2 ^ 31
pub valued : {R : Type 0} → Makes (λ v. v < 2 ^ 31) (value {R = R})
valued = record { made = λ v l. l }

-- what a rule gave on the values of the first steps
pub ran : {W R A : Type 0} (P : A → Type 0) (m : Rule W R A) → Gives P m → (s : Random) (a : ℕ) (x : A) (n : ℕ) → run m (values a s) ≡ ended x n → P x
unfolding placed
ran P m g s a x n e =
    play_gave (λ w. tt {0}) (λ r. tt {0}) P m g (tallied a 0 s) x _ (play_run (λ w. tt {0}) (λ r. tt {0}) m a 0 s ∙ ap (placed (λ w. tt {0}) (λ r. tt {0}) a _ s) e)

-- a note added, on the deck
pub added : {A : Type 0} {P : Pattern A → Type 0} (columns : ℕ) (note : A) (c : ℕ) (p : Pattern A) → (c < columns → P (put note c p)) → Makes P (add columns note c p)
unfolding add
added columns note c p h = by (ltb c columns) _ _ (λ e. giving (h (ltb-true c columns e))) (λ e. refusing)

-- ---- lists

pub each_snoc : {A : Type 0} (P : A → Type 0) (xs : List A) (b : A) → Each P xs → P b → Each P (xs ++ b ∷ [])
each_snoc P [] b h g = (g, tt)
each_snoc P (a ∷ xs) b h g = (h.0, each_snoc P xs b h.1 g)

pub two_snoc : {A : Type 0} (R : A → A → Type 0) (xs : List A) (b : A) → EveryTwo R xs → Each (λ a. R a b) xs → EveryTwo R (xs ++ b ∷ [])
two_snoc R [] b h g = (tt, tt)
two_snoc R (a ∷ xs) b h g = (each_snoc (R a) xs b h.0 g.0, two_snoc R xs b h.1 g.1)

pub two_map : {A : Type 0} (R S : A → A → Type 0) → ((a b : A) → R a b → S a b) → (xs : List A) → EveryTwo R xs → EveryTwo S xs
two_map R S f [] h = tt
two_map R S f (a ∷ xs) h = (each_map (R a) (S a) (f a) xs h.0, two_map R S f xs h.1)
