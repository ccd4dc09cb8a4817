-- What holds of all that a rule can give, and of all that it can refuse by, its draws being below 2 ^ 31. Assumes nothing.
use Rattle.std.specs.Prelude.{if◌then◌else◌}
use mathlib.Core.Path.{◌≡◌, refl, subst}
use Prim.Native.Nat.{ℕ, zero, suc, ◌^◌, ◌<◌}
use mathlib.Core.Bool.{Bool, true, false}
use mathlib.Core.List.{List, [], ◌∷◌}
use borrow.Author.Tests.{lt-ltb}
use Rattle.rules.specs.Rule.{Rule, give, refuse, draw, draw_until, ◌>>=◌, label, Outcome, ended, refused, spent, after, drawing_until, run}
use Rattle.random.specs.Generator.{next, values}
use Rattle.random.specs.Play.{value}
use Rattle.random.specs.declared.Random.{Random}
use Rattle.random.specs.Laws.Gives.{Gives, low_lt}
use Rattle.mania.specs.Pattern.{Pattern, put, add}
use Rattle.mania.proofs.Makes.{Makes}

-- P of each end, and Q of each refusal, that of a search beyond its limit included
abbrev pub Ends : {W R A : Type 0} → (A → Type 0) → (R → Type 0) → Rule W R A → Type 0
Ends P Q (give a) = P a
Ends P Q (refuse r) = Q r
Ends P Q (draw w k) = (v : ℕ) → v < 2 ^ 31 → Ends P Q (k v)
Ends P Q (draw_until w limit r test k) = Q r × ((v n : ℕ) → v < 2 ^ 31 → test v ≡ true → Ends P Q (k v n))

-- a name for it, so that antt finds the rule that is spoken of
pub record Meets {W R A : Type 0} (Q : R → Type 0) (P : A → Type 0) (m : Rule W R A) : Type 0 where
  pub ends : Ends P Q m

bind_ends : {W R A B : Type 0} (P : A → Type 0) (S : B → Type 0) (Q : R → Type 0) (f : A → Rule W R B) → ((a : A) → P a → Ends S Q (f a))
    → (m : Rule W R A) → Ends P Q m → Ends S Q (m >>= f)
unfolding ◌>>=◌
bind_ends P S Q f h (give a) g = h a g
bind_ends P S Q f h (refuse r) g = g
bind_ends P S Q f h (draw w k) g = λ v l. bind_ends P S Q f h (k v) (g v l)
bind_ends P S Q f h (draw_until w limit r test k) g = (g.0, λ v n l e. bind_ends P S Q f h (k v n) (g.1 v n l e))

label_ends : {W W' R S A : Type 0} (P : A → Type 0) (Q : S → Type 0) (f : W → W') (g : R → S) (m : Rule W R A) → Ends P (λ r. Q (g r)) m → Ends P Q (label f g m)
unfolding label
label_ends P Q f g (give a) h = h
label_ends P Q f g (refuse r) h = h
label_ends P Q f g (draw w k) h = λ v l. label_ends P Q f g (k v) (h v l)
label_ends P Q f g (draw_until w limit r test k) h = (h.0, λ v n l e. label_ends P Q f g (k v n) (h.1 v n l e))

module _ {W R : Type 0} {Q : R → Type 0} where
  pub giving : {A : Type 0} {P : A → Type 0} {a : A} → P a → Meets {W = W} Q P (give a)
  giving h = record { ends = h }

  pub refusing : {A : Type 0} {P : A → Type 0} {r : R} → Q r → Meets {W = W} {A = A} Q P (refuse r)
  refusing h = record { ends = h }

  pub seq : {A B : Type 0} {P : A → Type 0} {S : B → Type 0} {m : Rule W R A} {f : A → Rule W R B} → Meets Q P m → ((a : A) → P a → Meets Q S (f a)) → Meets Q S (m >>= f)
  seq {P = P} {S = S} {m = m} {f = f} h g = record { ends = bind_ends P S Q f (λ a p. (g a p).ends) m h.ends }

  pub by : {A : Type 0} {P : A → Type 0} (b : Bool) (m n : Rule W R A) → (b ≡ true → Meets Q P m) → (b ≡ false → Meets Q P n) → Meets Q P (if b then m else n)
  by true m n h g = h refl
  by false m n h g = g refl

pub labelled : {W W' R S A : Type 0} {P : A → Type 0} (Q : S → Type 0) (f : W → W') (g : R → S) {m : Rule W R A} → Meets (λ r. Q (g r)) P m → Meets Q P (label f g m)
labelled {P = P} Q f g {m = m} h = record { ends = label_ends P Q f g m h.ends }

more_ends : {W R A : Type 0} (P S : A → Type 0) (Q T : R → Type 0) → ((a : A) → P a → S a) → ((r : R) → Q r → T r) → (m : Rule W R A) → Ends P Q m → Ends S T m
more_ends P S Q T f g (give a) h = f a h
more_ends P S Q T f g (refuse r) h = g r h
more_ends P S Q T f g (draw w k) h = λ v l. more_ends P S Q T f g (k v) (h v l)
more_ends P S Q T f g (draw_until w limit r test k) h = (g r h.0, λ v n l e. more_ends P S Q T f g (k v n) (h.1 v n l e))

-- less said of its ends, and of its refusals
pub less : {W R A : Type 0} {P S : A → Type 0} {Q T : R → Type 0} {m : Rule W R A} → Meets Q P m → ((a : A) → P a → S a) → ((r : R) → Q r → T r) → Meets T S m
less {P = P} {S = S} {Q = Q} {T = T} {m = m} h f g = record { ends = more_ends P S Q T f g m h.ends }

-- what is said of all that the rule can give
with_gives : {W R A : Type 0} (P S : A → Type 0) (Q : R → Type 0) (m : Rule W R A) → Ends S Q m → Gives P m → Ends P Q m
with_gives P S Q (give a) h g = g
with_gives P S Q (refuse r) h g = h
with_gives P S Q (draw w k) h g = λ v l. with_gives P S Q (k v) (h v l) (g v l)
with_gives P S Q (draw_until w limit r test k) h g = (h.0, λ v n l e. with_gives P S Q (k v n) (h.1 v n l e) (g v n l e))

pub both : {W R A : Type 0} {P S : A → Type 0} {Q : R → Type 0} {m : Rule W R A} → Meets Q S m → Makes P m → Meets Q P m
both {P = P} {S = S} {Q = Q} {m = m} h g = record { ends = with_gives P S Q m h.ends g.made }

ends_gives : {W R A : Type 0} (P : A → Type 0) (Q : R → Type 0) (m : Rule W R A) → Ends P Q m → Gives P m
ends_gives P Q (give a) h = h
ends_gives P Q (refuse r) h = tt
ends_gives P Q (draw w k) h = λ v l. ends_gives P Q (k v) (h v l)
ends_gives P Q (draw_until w limit r test k) h = λ v n l e. ends_gives P Q (k v n) (h.1 v n l e)

pub makes : {W R A : Type 0} {P : A → Type 0} {Q : R → Type 0} {m : Rule W R A} → Meets Q P m → Makes P m
makes {P = P} {Q = Q} {m = m} h = record { made = ends_gives P Q m h.ends }

-- a value is below 2 ^ 31
pub valued : {R : Type 0} {Q : R → Type 0} → Meets Q (λ v. v < 2 ^ 31) value
valued = record { ends = λ v l. l }

-- a note added on the deck is not refused
pub added : {A : Type 0} {Q : _ → Type 0} {P : Pattern A → Type 0} (columns : ℕ) (note : A) (c : ℕ) (p : Pattern A) → c < columns → P (put note c p) → Meets Q P (add columns note c p)
unfolding add
added columns note c p l h = rw (lt-ltb c columns l) (giving h)

-- ---- of a run on values of the generator

abbrev Small : List ℕ → Type 0
Small [] = Unit {0}
Small (v ∷ vs) = (v < 2 ^ 31) × Small vs

values_small : (n : ℕ) (s : Random) → Small (values n s)
unfolding values
values_small zero s = tt
values_small (suc n) s = (low_lt (next s), values_small n (next s))

module _ {W R A : Type 0} (P : A → Type 0) (Q : R → Type 0) where
  abbrev Ended : Outcome W R A → Type 0
  Ended (ended a n) = P a
  Ended (refused r n) = Q r
  Ended (spent w n) = Unit {0}

  after_ended : (o : Outcome W R A) → Ended o → Ended (after o)
  unfolding after
  after_ended (ended a n) h = h
  after_ended (refused r n) h = h
  after_ended (spent w n) h = tt

  either_ended : (b : Bool) (o q : Outcome W R A) → (b ≡ true → Ended o) → Ended q → Ended (if b then o else q)
  either_ended true o q h g = h refl
  either_ended false o q h g = g

  until_ended : (w : W) (r : R) (test : ℕ → Bool) (f : ℕ → ℕ → List ℕ → Outcome W R A) → Q r
      → ((v n : ℕ) (vs : List ℕ) → v < 2 ^ 31 → test v ≡ true → Small vs → Ended (f v n vs))
      → (more made : ℕ) (vs : List ℕ) → Small vs → Ended (drawing_until w r test f more made vs)
  unfolding drawing_until
  until_ended w r test f q g zero made vs s = q
  until_ended w r test f q g (suc more) made [] s = tt
  until_ended w r test f q g (suc more) made (v ∷ vs) s =
      let later = drawing_until w r test f more (suc made) vs in
      after_ended (if test v then f v (suc made) vs else later)
      (either_ended (test v) (f v (suc made) vs) later (λ e. g v (suc made) vs s.0 e s.1) (until_ended w r test f q g more (suc made) vs s.1))

  run_ended : (m : Rule W R A) → Ends P Q m → (vs : List ℕ) → Small vs → Ended (run m vs)
  unfolding run
  run_ended (give a) h vs s = h
  run_ended (refuse r) h vs s = h
  run_ended (draw w k) h [] s = tt
  run_ended (draw w k) h (v ∷ vs) s = after_ended (run (k v) vs) (run_ended (k v) (h v s.0) vs s.1)
  run_ended (draw_until w limit r test k) h vs s = until_ended w r test (λ v n. run (k v n)) h.0 (λ v n vs l e s. run_ended (k v n) (h.1 v n l e) vs s) limit 0 vs s

pub refused_meets : {W R A : Type 0} {P : A → Type 0} {Q : R → Type 0} (m : Rule W R A) → Meets Q P m → (a : ℕ) (s : Random) (r : R) (n : ℕ) → run m (values a s) ≡ refused r n → Q r
refused_meets {P = P} {Q = Q} m h a s r n e = subst (Ended P Q) e (run_ended P Q m h.ends (values a s) (values_small a s))

pub ended_meets : {W R A : Type 0} {P : A → Type 0} {Q : R → Type 0} (m : Rule W R A) → Meets Q P m → (a : ℕ) (s : Random) (x : A) (n : ℕ) → run m (values a s) ≡ ended x n → P x
ended_meets {P = P} {Q = Q} m h a s x n e = subst (Ended P Q) e (run_ended P Q m h.ends (values a s) (values_small a s))
