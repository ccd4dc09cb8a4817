-- What a rule comes to on a list, and on another list that begins alike. Assumes nothing.
use Rattle.std.specs.Prelude.{◌≡◌, Bool, true, false, leb, length, take, if◌then◌else◌}
use Rattle.std.proofs.Math.Path.{refl, ap}
use Rattle.std.proofs.Common.{sym, ◌∙◌, subst, le_refl, le_of_lt, le-leb}
use Prim.Native.Nat.{ℕ, zero, suc, min, ◌≤◌, ◌<◌}
use Rattle.std.proofs.Math.Nat.{zero-min, min-zero, suc-min-suc, min-eq_left}
use native.Mathlib.Omega.{arith}
use mathlib.Core.List.{List, [], ◌∷◌}
use Rattle.std.proofs.lemmas.Bool.{lt-leb}
use Rattle.std.proofs.Math.Dec.{leb-zero, leb-suc-suc, leb-suc-zero}
use Rattle.rules.specs.Rule.{Rule, give, refuse, draw, draw_until, Outcome, ended, refused, spent, after, drawing_until, run, taken, Done}

-- ---- to give a rule less is to cut its outcome: where it took more than is left, that is spent

-- an outcome with what a spent one says left out
data Plain (P R A : Type 0) : Type 0 where
  stops : Outcome P R A → ℕ → Plain P R A
  runs_out : ℕ → Plain P R A

abbrev plain : {P R A : Type 0} → Outcome P R A → Plain P R A
plain (ended a n) = stops (ended a n) n
plain (refused r n) = stops (refused r n) n
plain (spent p n) = runs_out n

abbrev cut : {P R A : Type 0} → ℕ → Plain P R A → Plain P R A
cut k (stops o n) = if leb n k then stops o n else runs_out k
cut k (runs_out n) = runs_out (min k n)

abbrev later : {P R A : Type 0} → Plain P R A → Plain P R A
later (stops o n) = stops (after o) (suc n)
later (runs_out n) = runs_out (suc n)

module _ {P R A : Type 0} where
  plain_after : (o : Outcome P R A) → plain (after o) ≡ later (plain o)
  unfolding after
  plain_after (ended a n) = refl
  plain_after (refused r n) = refl
  plain_after (spent p n) = refl

  later_if : (b : Bool) (x y : Plain P R A) → (if b then later x else later y) ≡ later (if b then x else y)
  later_if true x y = refl
  later_if false x y = refl

  cut_none : (x : Plain P R A) → cut zero (later x) ≡ runs_out 0
  cut_none (stops o n) = rw leb-suc-zero
  cut_none (runs_out n) = ap runs_out (zero-min (suc n))

  cut_later : (k : ℕ) (x : Plain P R A) → cut (suc k) (later x) ≡ later (cut k x)
  cut_later k (stops o n) = rw leb-suc-suc (later_if (leb n k) (stops o n) (runs_out k))
  cut_later k (runs_out n) = ap runs_out (suc-min-suc k n)

  -- one value more, on both sides
  none_more : (o : Outcome P R A) → runs_out 0 ≡ cut zero (plain (after o))
  none_more o = sym (ap (cut zero) (plain_after o) ∙ cut_none (plain o))

  one_more : (k : ℕ) (o o' : Outcome P R A) → plain o' ≡ cut k (plain o) → plain (after o') ≡ cut (suc k) (plain (after o))
  one_more k o o' e = plain_after o' ∙ ap later e ∙ sym (ap (cut (suc k)) (plain_after o) ∙ cut_later k (plain o))

  module _ (p : P) (r : R) (test : ℕ → Bool) (f : ℕ → ℕ → List ℕ → Outcome P R A)
      (h : (v n k : ℕ) (vs : List ℕ) → plain (f v n (take k vs)) ≡ cut k (plain (f v n vs))) where
    branch_take : (b : Bool) (k v n : ℕ) (vs : List ℕ) (x y : Outcome P R A) → plain x ≡ cut k (plain y)
        → plain (if b then f v n (take k vs) else x) ≡ cut k (plain (if b then f v n vs else y))
    branch_take true k v n vs x y e = h v n k vs
    branch_take false k v n vs x y e = e

    drawing_until_take : (more made k : ℕ) (vs : List ℕ) → plain (drawing_until p r test f more made (take k vs)) ≡ cut k (plain (drawing_until p r test f more made vs))
    unfolding drawing_until
    drawing_until_take zero made k vs = rw leb-zero
    drawing_until_take (suc more) made zero [] = ap runs_out (sym (zero-min 0))
    drawing_until_take (suc more) made zero (v ∷ vs) = none_more (if test v then f v (suc made) vs else drawing_until p r test f more (suc made) vs)
    drawing_until_take (suc more) made (suc k) [] = ap runs_out (sym (min-zero (suc k)))
    drawing_until_take (suc more) made (suc k) (v ∷ vs) =
        let x = drawing_until p r test f more (suc made) (take k vs) in
        let y = drawing_until p r test f more (suc made) vs in
        one_more k (if test v then f v (suc made) vs else y) (if test v then f v (suc made) (take k vs) else x)
        (branch_take (test v) k v (suc made) vs x y (drawing_until_take more (suc made) k vs))

  run_take : (m : Rule P R A) (k : ℕ) (vs : List ℕ) → plain (run m (take k vs)) ≡ cut k (plain (run m vs))
  unfolding run
  run_take (give a) k vs = rw leb-zero
  run_take (refuse r) k vs = rw leb-zero
  run_take (draw p f) zero [] = ap runs_out (sym (zero-min 0))
  run_take (draw p f) zero (v ∷ vs) = none_more (run (f v) vs)
  run_take (draw p f) (suc k) [] = ap runs_out (sym (min-zero (suc k)))
  run_take (draw p f) (suc k) (v ∷ vs) = one_more k (run (f v) vs) (run (f v) (take k vs)) (run_take (f v) k vs)
  run_take (draw_until p limit r test f) k vs = drawing_until_take p r test (λ v n. run (f v n)) (λ v n. run_take (f v n)) limit 0 k vs

-- ---- where a rule ends spent, it took the whole list; it never takes more

-- what holds of an outcome on a list of this length
abbrev pub Within : {P R A : Type 0} → Outcome P R A → ℕ → Type 0
Within (ended a n) l = n ≤ l
Within (refused r n) l = n ≤ l
Within (spent p n) l = n ≡ l

module _ {P R A : Type 0} where
  within_after : (o : Outcome P R A) (l : ℕ) → Within o l → Within (after o) (suc l)
  unfolding after
  within_after (ended a n) l h = omega arith
  within_after (refused r n) l h = omega arith
  within_after (spent p n) l h = omega arith

  module _ (p : P) (r : R) (test : ℕ → Bool) (f : ℕ → ℕ → List ℕ → Outcome P R A) (h : (v n : ℕ) (vs : List ℕ) → Within (f v n vs) (length vs)) where
    branch_within : (b : Bool) (v n : ℕ) (vs : List ℕ) (x : Outcome P R A) → Within x (length vs) → Within (if b then f v n vs else x) (length vs)
    branch_within true v n vs x e = h v n vs
    branch_within false v n vs x e = e

    drawing_until_within : (more made : ℕ) (vs : List ℕ) → Within (drawing_until p r test f more made vs) (length vs)
    unfolding drawing_until
    drawing_until_within zero made vs = omega arith
    drawing_until_within (suc more) made [] = refl
    drawing_until_within (suc more) made (v ∷ vs) =
        let x = drawing_until p r test f more (suc made) vs in
        within_after (if test v then f v (suc made) vs else x) (length vs) (branch_within (test v) v (suc made) vs x (drawing_until_within more (suc made) vs))

  pub run_within : (m : Rule P R A) (vs : List ℕ) → Within (run m vs) (length vs)
  unfolding run
  run_within (give a) vs = omega arith
  run_within (refuse r) vs = omega arith
  run_within (draw p f) [] = refl
  run_within (draw p f) (v ∷ vs) = within_after (run (f v) vs) (length vs) (run_within (f v) vs)
  run_within (draw_until p limit r test f) vs = drawing_until_within p r test (λ v n. run (f v n)) (λ v n. run_within (f v n)) limit 0 vs

-- ---- two lists

module _ {P R A : Type 0} where
  cut_own : (o : Outcome P R A) → Done o → cut (taken o) (plain o) ≡ plain o
  unfolding taken
  cut_own (ended a n) d = rw (le-leb n n (le_refl n))
  cut_own (refused r n) d = rw (le-leb n n (le_refl n))
  cut_own (spent _ _) d = elim d [ ]

  cut_less : (k : ℕ) (o : Outcome P R A) → k < taken o → cut k (plain o) ≡ runs_out k
  unfolding taken
  cut_less k (ended a n) h = rw (lt-leb n k h)
  cut_less k (refused r n) h = rw (lt-leb n k h)
  cut_less k (spent p n) h = ap runs_out (min-eq_left (le_of_lt h))

  -- a plain outcome that did not run out
  abbrev Stops : Plain P R A → Type 0
  Stops (stops o n) = Unit {0}
  Stops (runs_out n) = ⊥

  done_stops : (o : Outcome P R A) → Done o → Stops (plain o)
  done_stops (ended a n) d = tt
  done_stops (refused r n) d = tt
  done_stops (spent _ _) d = elim d [ ]

  uncut : (k : ℕ) (x y : Plain P R A) → Stops y → cut k x ≡ y → x ≡ y
  uncut k (stops o n) y s e = pick (leb n k) e
    where
      pick : (b : Bool) → (if b then stops o n else runs_out k) ≡ y → stops o n ≡ y
      pick true i = i
      pick false i = absurd (subst Stops (sym i) s)
  uncut k (runs_out n) y s e = absurd (subst Stops (sym e) s)

  unplain : (o q : Outcome P R A) → Done q → plain o ≡ plain q → o ≡ q
  unplain (ended a n) (ended b m) d e = cc
  unplain (ended a n) (refused b m) d e = cc
  unplain (ended a n) (spent _ _) d e = elim d [ ]
  unplain (refused a n) (ended b m) d e = cc
  unplain (refused a n) (refused b m) d e = cc
  unplain (refused a n) (spent _ _) d e = elim d [ ]
  unplain (spent a n) q d e = absurd (subst Stops (sym e) (done_stops q d))

  done_taken : (o : Outcome P R A) (l : ℕ) → Within o l → Done o → taken o ≤ l
  unfolding taken
  done_taken (ended a n) l h d = h
  done_taken (refused r n) l h d = h
  done_taken (spent _ _) l h d = elim d [ ]

  pub done_within : (m : Rule P R A) (vs : List ℕ) → Done (run m vs) → taken (run m vs) ≤ length vs
  done_within m vs d = done_taken (run m vs) (length vs) (run_within m vs) d

  -- a list that begins with the same values that were taken: the same end, with as many taken
  pub same_start : (m : Rule P R A) (vs ws : List ℕ) → Done (run m vs) → take (taken (run m vs)) ws ≡ take (taken (run m vs)) vs
      → run m ws ≡ run m vs
  same_start m vs ws d e =
      let n = taken (run m vs) in
      unplain (run m ws) (run m vs) d
      (uncut n (plain (run m ws)) (plain (run m vs)) (done_stops (run m vs) d)
      (sym (run_take m n ws) ∙ ap (λ (us : List ℕ). plain (run m us)) e ∙ run_take m n vs ∙ cut_own (run m vs) d))

  ran_out : (o : Outcome P R A) (k : ℕ) → plain o ≡ runs_out k → (p : P) × (o ≡ spent p k)
  ran_out (ended a n) k e = absurd (subst Stops e tt)
  ran_out (refused r n) k e = absurd (subst Stops e tt)
  ran_out (spent p n) k e = (p, ap (spent p) (cc))

  -- fewer of the same values than were taken: spent, with all of them taken
  pub too_few : (m : Rule P R A) (vs : List ℕ) (k : ℕ) → k < taken (run m vs) → (p : P) × (run m (take k vs) ≡ spent p k)
  too_few m vs k h = ran_out (run m (take k vs)) k (run_take m k vs ∙ cut_less k (run m vs) h)

  -- spent: the whole list was taken
  pub spent_whole : (m : Rule P R A) (vs : List ℕ) (p : P) (n : ℕ) → run m vs ≡ spent p n → n ≡ length vs
  spent_whole m vs p n e = subst (λ (x : Outcome P R A). Within x (length vs)) e (run_within m vs)
