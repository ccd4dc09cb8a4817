-- The sum over searches, and the values taken outside every search, are all that a rule takes; and the ledger goes by those values alone. Assumes nothing.
use Rattle.std.specs.Prelude.{◌≡◌, Bool, true, false, take, if◌then◌else◌}
use Rattle.std.proofs.Math.Path.{refl, ap}
use Rattle.std.proofs.Common.{sym, ◌∙◌, subst, le_refl}
use Prim.Native.Nat.{ℕ, zero, suc, ◌+◌, ◌≤◌}
use native.Mathlib.Omega.{arith}
use mathlib.Core.List.{List, [], ◌∷◌}
use Rattle.rules.specs.Rule.{Rule, give, refuse, draw, draw_until, Outcome, ended, refused, spent, after, drawing_until, run, taken, Done}
use Rattle.rules.specs.Ledger.{Ledger, after_search, after_value, ledger_until, ledger, sum}
use Rattle.rules.proofs.Laws.Cut.{same_start}

-- all that a ledger has
abbrev pub total : Ledger → ℕ
total l = sum l.searches + l.outside

taken_after : {P R A : Type 0} (o : Outcome P R A) → taken (after o) ≡ suc (taken o)
unfolding taken after
taken_after (ended a n) = refl
taken_after (refused r n) = refl
taken_after (spent p n) = refl

search_total : (n : ℕ) (l : Ledger) → total (after_search n l) ≡ n + total l
unfolding sum
search_total n l = omega arith

-- a search that has taken `made`
module _ {P R A : Type 0} (p : P) (r : R) (test : ℕ → Bool) (f : ℕ → ℕ → List ℕ → Outcome P R A) (g : ℕ → ℕ → List ℕ → Ledger)
    (h : (v n : ℕ) (vs : List ℕ) → total (g v n vs) ≡ taken (f v n vs)) where
  branch_total : (b : Bool) (made v : ℕ) (vs : List ℕ) (later : Outcome P R A) (entered : Ledger) → total entered ≡ suc made + taken later
      → total (if b then after_search (suc made) (g v (suc made) vs) else entered) ≡ suc made + taken (if b then f v (suc made) vs else later)
  branch_total true made v vs later entered e = search_total (suc made) (g v (suc made) vs) ∙ ap (λ (n : ℕ). suc made + n) (h v (suc made) vs)
  branch_total false made v vs later entered e = e

  until_total : (more made : ℕ) (vs : List ℕ) → total (ledger_until test g more made vs) ≡ made + taken (drawing_until p r test f more made vs)
  unfolding ledger_until drawing_until taken sum
  until_total zero made vs = omega arith
  until_total (suc more) made [] = omega arith
  until_total (suc more) made (v ∷ vs) =
      let later = drawing_until p r test f more (suc made) vs in
      let o = if test v then f v (suc made) vs else later in
      let e = branch_total (test v) made v vs later (ledger_until test g more (suc made) vs) (until_total more (suc made) vs) in
      let t = taken_after o in
      omega (arith, e, t)

-- every rule, on every list of values: how it ends does not matter
pub all_counted : {P R A : Type 0} (m : Rule P R A) (vs : List ℕ) → sum (ledger m vs).searches + (ledger m vs).outside ≡ taken (run m vs)
unfolding ledger run taken sum
all_counted (give a) vs = refl
all_counted (refuse r) vs = refl
all_counted (draw p k) [] = refl
all_counted (draw p k) (v ∷ vs) =
    let e = all_counted (k v) vs in
    let t = taken_after (run (k v) vs) in
    omega (arith, e, t)
all_counted (draw_until p limit r test k) vs =
    let e = until_total p r test (λ v n. run (k v n)) (λ v n. ledger (k v n)) (λ v n. all_counted (k v n)) limit 0 vs in
    omega (arith, e)

-- ---- a list that begins with the values that were taken

take_none : (k : ℕ) → take {A = ℕ} k [] ≡ []
take_none zero = refl
take_none (suc k) = refl

module _ {P R A : Type 0} where
  none_less : (o : Outcome P R A) → taken (after o) ≤ 0 → ⊥
  none_less o h = omega (arith, taken_after o)

  one_less : (o : Outcome P R A) (k : ℕ) → taken (after o) ≤ suc k → taken o ≤ k
  one_less o k h = omega (arith, taken_after o)

  module _ (p : P) (r : R) (test : ℕ → Bool) (f : ℕ → ℕ → List ℕ → Outcome P R A) (g : ℕ → ℕ → List ℕ → Ledger)
      (h : (v n k : ℕ) (vs : List ℕ) → taken (f v n vs) ≤ k → g v n (take k vs) ≡ g v n vs) where
    branch_cut : (b : Bool) (k v n : ℕ) (vs : List ℕ) (later : Outcome P R A) (x y : Ledger) → (taken later ≤ k → x ≡ y)
        → taken (if b then f v n vs else later) ≤ k
        → (if b then after_search n (g v n (take k vs)) else x) ≡ (if b then after_search n (g v n vs) else y)
    branch_cut true k v n vs later x y e l = ap (after_search n) (h v n k vs l)
    branch_cut false k v n vs later x y e l = e l

    until_cut : (more made k : ℕ) (vs : List ℕ) → taken (drawing_until p r test f more made vs) ≤ k
        → ledger_until test g more made (take k vs) ≡ ledger_until test g more made vs
    unfolding ledger_until drawing_until
    until_cut zero made k vs l = refl
    until_cut (suc more) made k [] l = rw take_none
    until_cut (suc more) made zero (v ∷ vs) l = absurd (none_less (if test v then f v (suc made) vs else drawing_until p r test f more (suc made) vs) l)
    until_cut (suc more) made (suc k) (v ∷ vs) l =
        let later = drawing_until p r test f more (suc made) vs in
        branch_cut (test v) k v (suc made) vs later (ledger_until test g more (suc made) (take k vs)) (ledger_until test g more (suc made) vs)
        (until_cut more (suc made) k vs) (one_less (if test v then f v (suc made) vs else later) k l)

  ledger_cut : (m : Rule P R A) (k : ℕ) (vs : List ℕ) → taken (run m vs) ≤ k → ledger m (take k vs) ≡ ledger m vs
  unfolding ledger run
  ledger_cut (give a) k vs l = refl
  ledger_cut (refuse r) k vs l = refl
  ledger_cut (draw p f) k [] l = rw take_none
  ledger_cut (draw p f) zero (v ∷ vs) l = absurd (none_less (run (f v) vs) l)
  ledger_cut (draw p f) (suc k) (v ∷ vs) l = ap after_value (ledger_cut (f v) k vs (one_less (run (f v) vs) k l))
  ledger_cut (draw_until p limit r test f) k vs l = until_cut p r test (λ v n. run (f v n)) (λ v n. ledger (f v n)) (λ v n. ledger_cut (f v n)) limit 0 k vs l

  -- the same searches, with as many values each, and as many outside them
  pub same_ledger : (m : Rule P R A) (vs ws : List ℕ) → Done (run m vs) → take (taken (run m vs)) ws ≡ take (taken (run m vs)) vs
      → ledger m ws ≡ ledger m vs
  same_ledger m vs ws d e =
      let n = taken (run m vs) in
      let u : run m ws ≡ run m vs = same_start m vs ws d e in
      sym (ledger_cut m n ws (subst (λ (o : Outcome P R A). taken o ≤ n) (sym u) (le_refl n))) ∙ ap (ledger m) e ∙ ledger_cut m n vs (le_refl n)
