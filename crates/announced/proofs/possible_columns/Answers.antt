-- `announced::possible_columns` meets its contract: the columns gathered between the rounded ends are those that the ranges yield. Assumes nothing.
use mathlib.Core.Path.{◌≡◌, sym, ◌∙◌, subst}
use Prim.Native.Nat.{ℕ, suc, ◌-◌, ◌/◌, ◌%◌, ◌^◌, ◌≤◌, ◌<◌}
use native.Mathlib.Nat.{pos_of_ne-zero}
use native.Mathlib.Omega.{arith}
use lib.Dec.{T}
use Rattle.std.proofs.lemmas.Result.{err_from_is_err_and}
use Rattle.rules.specs.Laws.Coded.{code_some}
use Rattle.announced.specs.Gathered.{gathered}
use Rattle.announced.specs.Laws.{checked, ends_order, high_small, possible, no_other}
use Rattle.announced.proofs.possible_columns.Goals as goal

pub gather-requires : goal.gather-requires
gather-requires c =
    let f = (checked _ _ _ _ (sym c.in_ok-columns_refusal.ensures)).od_fits in
    within c.to_count-od_low.ensures c.to_count-od_high.ensures (ends_order _ f) (high_small _ f)
  where
    within : {a b i j : ℕ} → a ≡ i → b ≡ j → i ≤ j → j ≤ 10 → (a ≤ b) × (b < 2147483648)
    within p q h k = (omega arith, omega arith)

pub returns-in_err-columns_refusal : goal.returns-in_err-columns_refusal
returns-in_err-columns_refusal c =
    let p = err_from_is_err_and c.from_residual.result c.from_residual.ensures.1 in
    rw (p.1, p.2) (sym c.in_err-columns_refusal.ensures, pos_of_ne-zero (code_some _))

pub returns : goal.returns
returns c =
    let e = sym c.in_ok-columns_refusal.ensures in
    let od = c.well_formed.0.1.1 in
    let cs = c.well_formed.1.0.1.1 in
    let m = c.gather.ensures ∙ same _ _ c.to_count-od_low.ensures c.to_count-od_high.ensures c.to_count-cs_low.ensures c.to_count-cs_high.ensures in (
      e,
      λ k. (
        λ h. possible _ _ _ _ e (subst T (sym od.0.1) tt) (subst T (sym od.1.0.1) tt) (subst T (sym cs.0.1) tt) (subst T (sym cs.1.0.1) tt) k (subst (λ (z : ℕ). z / 2 ^ k % 2 ≡ 1) m h),
        λ y. subst (λ (z : ℕ). z / 2 ^ k % 2 ≡ 1) (sym m) (no_other _ _ _ _ e (subst T (sym od.0.1) tt) (subst T (sym od.1.0.1) tt) (subst T (sym cs.0.1) tt) (subst T (sym cs.1.0.1) tt) k y),
      ),
    )
  where
    same : (long objects : ℕ) {a b x y i j p q : ℕ} → a ≡ i → b ≡ j → x ≡ p → y ≡ q → gathered long objects x y a (suc b - a) ≡ gathered long objects p q i (suc j - i)
    same long objects s t u v = cc
