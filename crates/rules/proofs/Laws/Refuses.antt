-- What holds of every refusal of a rule holds of the one that it ends in. Assumes nothing.
use Rattle.std.specs.Prelude.{◌≡◌, Bool, true, false, if◌then◌else◌}
use Rattle.std.proofs.Common.{subst}
use Prim.Native.Nat.{ℕ, zero, suc}
use mathlib.Core.List.{List, [], ◌∷◌}
use Rattle.rules.specs.Rule.{Rule, give, refuse, draw, draw_until, ◌>>=◌, label, Outcome, ended, refused, spent, after, drawing_until, run}

-- Q of each refusal, that of a search beyond its limit included
abbrev pub Refuses : {P R A : Type 0} → (R → Type 0) → Rule P R A → Type 0
Refuses Q (give a) = Unit {0}
Refuses Q (refuse r) = Q r
Refuses Q (draw p k) = (v : ℕ) → Refuses Q (k v)
Refuses Q (draw_until p limit r test k) = Q r × ((v n : ℕ) → Refuses Q (k v n))

module _ {P R A : Type 0} (Q : R → Type 0) where
  pub if_refuses : (b : Bool) (m n : Rule P R A) → Refuses Q m → Refuses Q n → Refuses Q (if b then m else n)
  if_refuses true m n h g = h
  if_refuses false m n h g = g

  pub bind_refuses : {B : Type 0} (m : Rule P R B) (f : B → Rule P R A) → Refuses Q m → ((b : B) → Refuses Q (f b)) → Refuses Q (m >>= f)
  unfolding ◌>>=◌
  bind_refuses (give b) f h g = g b
  bind_refuses (refuse r) f h g = h
  bind_refuses (draw p k) f h g = λ v. bind_refuses (k v) f (h v) g
  bind_refuses (draw_until p limit r test k) f h g = (h.0, λ v n. bind_refuses (k v n) f (h.1 v n) g)

pub label_refuses : {P P' R S A : Type 0} (Q : S → Type 0) (f : P → P') (g : R → S) (m : Rule P R A) → Refuses (λ r. Q (g r)) m → Refuses Q (label f g m)
unfolding label
label_refuses Q f g (give a) h = tt
label_refuses Q f g (refuse r) h = h
label_refuses Q f g (draw p k) h = λ v. label_refuses Q f g (k v) (h v)
label_refuses Q f g (draw_until p limit r test k) h = (h.0, λ v n. label_refuses Q f g (k v n) (h.1 v n))

abbrev EndsBy : {P R A : Type 0} → (R → Type 0) → Outcome P R A → Type 0
EndsBy Q (ended a n) = Unit {0}
EndsBy Q (refused r n) = Q r
EndsBy Q (spent p n) = Unit {0}

module _ {P R A : Type 0} (Q : R → Type 0) where
  after_ends : (o : Outcome P R A) → EndsBy Q o → EndsBy Q (after o)
  unfolding after
  after_ends (ended a n) h = tt
  after_ends (refused r n) h = h
  after_ends (spent p n) h = tt

  if_ends : (b : Bool) (o q : Outcome P R A) → EndsBy Q o → EndsBy Q q → EndsBy Q (if b then o else q)
  if_ends true o q h g = h
  if_ends false o q h g = g

  until_ends : (p : P) (r : R) (test : ℕ → Bool) (f : ℕ → ℕ → List ℕ → Outcome P R A) → Q r → ((v n : ℕ) (vs : List ℕ) → EndsBy Q (f v n vs))
      → (more made : ℕ) (vs : List ℕ) → EndsBy Q (drawing_until p r test f more made vs)
  unfolding drawing_until
  until_ends p r test f q g zero made vs = q
  until_ends p r test f q g (suc more) made [] = tt
  until_ends p r test f q g (suc more) made (v ∷ vs) =
      let later = drawing_until p r test f more (suc made) vs in
      after_ends (if test v then f v (suc made) vs else later) (if_ends (test v) (f v (suc made) vs) later (g v (suc made) vs) (until_ends p r test f q g more (suc made) vs))

  run_ends : (m : Rule P R A) → Refuses Q m → (vs : List ℕ) → EndsBy Q (run m vs)
  unfolding run
  run_ends (give a) h vs = tt
  run_ends (refuse r) h vs = h
  run_ends (draw p k) h [] = tt
  run_ends (draw p k) h (v ∷ vs) = after_ends (run (k v) vs) (run_ends (k v) (h v) vs)
  run_ends (draw_until p limit r test k) h vs = until_ends p r test (λ v n. run (k v n)) h.0 (λ v n. run_ends (k v n) (h.1 v n)) limit 0 vs

  pub refused_by_law : (m : Rule P R A) → Refuses Q m → (vs : List ℕ) (r : R) (n : ℕ) → run m vs ≡ refused r n → Q r
  refused_by_law m h vs r n e = subst (EndsBy Q) e (run_ends m h vs)
