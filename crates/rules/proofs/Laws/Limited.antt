-- Of a rule whose searches have one limit: none takes more, and the search that a rule is refused by has taken as many. Assumes nothing.
use Rattle.std.specs.Prelude.{◌≡◌, Bool, true, false, if◌then◌else◌}
use Rattle.std.proofs.Math.Path.{sym}
use Rattle.std.proofs.Common.{◌∙◌, subst, add-zero, zero-add}
use Prim.Native.Nat.{ℕ, zero, suc, ◌+◌, ◌≤◌}
use native.Mathlib.Omega.{arith}
use mathlib.Core.List.{List, [], ◌∷◌}
use Rattle.rules.specs.Rule.{Rule, give, refuse, draw, draw_until, ◌>>=◌, label, Outcome, ended, refused, spent, after, drawing_until, run}
use Rattle.rules.specs.Ledger.{Ledger, after_search, ledger_until, ledger, largest}
use Rattle.rules.specs.Limited.{Limited, last_or}

-- ---- rules in a row, under a label

module _ {P R : Type 0} (limit : ℕ) (Q : R → Type 0) where
  pub bind_limited : {A B : Type 0} (m : Rule P R B) (f : B → Rule P R A) → Limited limit Q m → ((b : B) → Limited limit Q (f b)) → Limited limit Q (m >>= f)
  unfolding ◌>>=◌
  bind_limited (give b) f h g = g b
  bind_limited (refuse r) f h g = h
  bind_limited (draw p k) f h g = λ v. bind_limited (k v) f (h v) g
  bind_limited (draw_until p own r test k) f h g = (h.0, λ v n. bind_limited (k v n) f (h.1 v n) g)

pub label_limited : {P P' R S A : Type 0} (limit : ℕ) (Q : S → Type 0) (f : P → P') (g : R → S) (m : Rule P R A) → Limited limit (λ r. Q (g r)) m → Limited limit Q (label f g m)
unfolding label
label_limited limit Q f g (give a) h = tt
label_limited limit Q f g (refuse r) h = h
label_limited limit Q f g (draw p k) h = λ v. label_limited limit Q f g (k v) (h v)
label_limited limit Q f g (draw_until p own r test k) h = (h.0, λ v n. label_limited limit Q f g (k v n) (h.1 v n))

-- ---- no search takes more

module _ (limit : ℕ) where
  largest_search : (n : ℕ) (l : Ledger) → n ≤ limit → largest l.searches ≤ limit → largest (after_search n l).searches ≤ limit
  unfolding largest
  largest_search n l h g = omega arith

  few_if : (b : Bool) (x y : Ledger) → largest x.searches ≤ limit → largest y.searches ≤ limit → largest (if b then x else y).searches ≤ limit
  few_if true x y h g = h
  few_if false x y h g = g

  until_few : (test : ℕ → Bool) (g : ℕ → ℕ → List ℕ → Ledger) → ((v n : ℕ) (vs : List ℕ) → largest (g v n vs).searches ≤ limit)
      → (more made : ℕ) (vs : List ℕ) → made + more ≡ limit → largest (ledger_until test g more made vs).searches ≤ limit
  unfolding ledger_until largest
  until_few test g h zero made vs e = omega arith
  until_few test g h (suc more) made [] e = omega arith
  until_few test g h (suc more) made (v ∷ vs) e =
      few_if (test v) (after_search (suc made) (g v (suc made) vs)) (ledger_until test g more (suc made) vs)
      (largest_search (suc made) (g v (suc made) vs) (omega arith) (h v (suc made) vs)) (until_few test g h more (suc made) vs (omega arith))

module _ {P R A : Type 0} (limit : ℕ) (Q : R → Type 0) where
  pub few : (m : Rule P R A) → Limited limit Q m → (vs : List ℕ) → largest (ledger m vs).searches ≤ limit
  unfolding ledger largest
  few (give a) h vs = omega arith
  few (refuse r) h vs = omega arith
  few (draw p k) h [] = omega arith
  few (draw p k) h (v ∷ vs) = few (k v) (h v) vs
  few (draw_until p own r test k) h vs = until_few limit test (λ v n. ledger (k v n)) (λ v n. few (k v n) (h.1 v n)) own 0 vs (zero-add own ∙ h.0)

  -- ---- a refusal of which Q holds

  -- the last search made `limit` draws; where ns is empty, d is the count of the last search
  abbrev Full : ℕ → Outcome P R A → List ℕ → Type 0
  Full d (ended a n) ns = Unit {0}
  Full d (refused r n) ns = Q r → last_or d ns ≡ limit
  Full d (spent p n) ns = Unit {0}

  full_after : (d : ℕ) (o : Outcome P R A) (ns : List ℕ) → Full d o ns → Full d (after o) ns
  unfolding after
  full_after d (ended a n) ns h = tt
  full_after d (refused r n) ns h = h
  full_after d (spent p n) ns h = tt

  full_search : (d n : ℕ) (o : Outcome P R A) (ns : List ℕ) → Full n o ns → Full d o (n ∷ ns)
  unfolding last_or
  full_search d n (ended a k) ns h = tt
  full_search d n (refused r k) ns h = h
  full_search d n (spent p k) ns h = tt

  full_if : (d : ℕ) (t : Bool) (o q : Outcome P R A) (b c : Ledger) → Full d o b.searches → Full d q c.searches → Full d (if t then o else q) (if t then b else c).searches
  full_if d true o q b c h g = h
  full_if d false o q b c h g = g

  until_full : (p : P) (r : R) (test : ℕ → Bool) (f : ℕ → ℕ → List ℕ → Outcome P R A) (g : ℕ → ℕ → List ℕ → Ledger)
      → ((v n d : ℕ) (vs : List ℕ) → Full d (f v n vs) (g v n vs).searches)
      → (more made d : ℕ) (vs : List ℕ) → made + more ≡ limit → Full d (drawing_until p r test f more made vs) (ledger_until test g more made vs).searches
  unfolding drawing_until ledger_until last_or
  until_full p r test f g h zero made d vs e = λ q. sym (add-zero made) ∙ e
  until_full p r test f g h (suc more) made d [] e = tt
  until_full p r test f g h (suc more) made d (v ∷ vs) e =
      let o = f v (suc made) vs in
      let q = drawing_until p r test f more (suc made) vs in
      let b = after_search (suc made) (g v (suc made) vs) in
      let c = ledger_until test g more (suc made) vs in
      full_after d (if test v then o else q) (if test v then b else c).searches
      (full_if d (test v) o q b c (full_search d (suc made) o (g v (suc made) vs).searches (h v (suc made) (suc made) vs)) (until_full p r test f g h more (suc made) d vs (omega arith)))

  run_full : (m : Rule P R A) → Limited limit Q m → (d : ℕ) (vs : List ℕ) → Full d (run m vs) (ledger m vs).searches
  unfolding run ledger last_or
  run_full (give a) h d vs = tt
  run_full (refuse r) h d vs = λ q. absurd (h q)
  run_full (draw p k) h d [] = tt
  run_full (draw p k) h d (v ∷ vs) = full_after d (run (k v) vs) (ledger (k v) vs).searches (run_full (k v) (h v) d vs)
  run_full (draw_until p own r test k) h d vs =
      until_full p r test (λ v n. run (k v n)) (λ v n. ledger (k v n)) (λ v n. run_full (k v n) (h.1 v n)) own 0 d vs (zero-add own ∙ h.0)

  -- a rule that is refused so: its last search took as many values as it may
  pub refused_full : (m : Rule P R A) → Limited limit Q m → (vs : List ℕ) (r : R) (n : ℕ) → run m vs ≡ refused r n → Q r → last_or 0 (ledger m vs).searches ≡ limit
  refused_full m h vs r n e = subst (λ (o : Outcome P R A). Full 0 o (ledger m vs).searches) e (run_full m h 0 vs)
