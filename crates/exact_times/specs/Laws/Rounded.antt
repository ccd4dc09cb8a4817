-- The f64 sum of two times says how their exact sum compares with a third time, unless the two are equal: rounding keeps the order.
-- Assumes nothing.
use Rattle.std.specs.Prelude.{◌≡◌, ◌⊎◌, ℕ, ◌+◌, ◌*◌, ◌^◌, ◌≤◌, ◌<◌, Float}
use Rattle.std.proofs.Math.Path.{refl}
use Rattle.std.proofs.Common.{sym, ap, ◌∙◌, mul-pos, mul-le-mul_right, arith, pow_pos}
use Rattle.std.proofs.Math.Bool.{true, false}
use Rattle.std.proofs.Math.Logic.{⊎_elim}
use Rattle.std.proofs.Math.Dec.{T}
use Rattle.std.specs.Float.Ieee.{nan, inf, round, add, lt, le, eq}
use Rattle.std.specs.Float.{fin, binary64}
use Rattle.std.specs.Float.Ieee.Bits.{of_bits-fits, is_true}
use Rattle.std.specs.Float.Ieee.Exact.{HasValue}
use Rattle.std.specs.Float.Ieee.Order.{round_mono}
use Rattle.std.specs.Float.Ieee.Positive.{num, den, den_pos}
use Rattle.std.proofs.lemmas.Bool.{not-true}
use Rattle.floats.specs.Ticks.{ticks}
use Rattle.floats.specs.Laws.Patterns.{small_value}
use Rattle.floats.specs.Laws.Values.{Sized, sized, own_round, rounded_kind, add_value, lt_value, le_not_lt}
use Rattle.chart.specs.Time.{time}
use Rattle.chart.specs.Tests.{never}
use Rattle.floats.specs.Format.{infinity}
use Rattle.chart.specs.Laws.Times.{ticks_size, le_or_lt}

cross : (x : Float) (a c : ℕ) → HasValue x false a c → num x * c ≡ a * den x
cross nan a c h = absurd h
cross (inf s) a c h = absurd h
cross (fin s m e) a c h = h.1

-- (a + b) / p beside n / d, which is c / p
under : (a b c p n d : ℕ) → n * p ≡ c * d → a + b ≤ c → (a * p + b * p) * d ≤ n * (p * p)
under a b c p n d e h = omega (arith, mul-le-mul_right (p * d) h, ap (λ (z : ℕ). z * p) e)

over : (a b c p n d : ℕ) → n * p ≡ c * d → c ≤ a + b → n * (p * p) ≤ (a * p + b * p) * d
over a b c p n d e h = omega (arith, mul-le-mul_right (p * d) h, ap (λ (z : ℕ). z * p) e)

-- s is an infinity or a number, and r has the value of x
module _ (s x r : Float) (v : Sized x) (u : HasValue r false (num x) (den x)) (kind : (s ≡ inf false) ⊎ Sized s) where
  not_under : lt s x ≡ true → T (le r s) → ⊥
  unfolding lt
  not_under h k = ⊎_elim (λ (e : s ≡ inf false). infinite x v (rw e at h)) by_value kind
    where
      infinite : (x : Float) → Sized x → lt (inf false) x ≡ true → ⊥
      infinite nan v h = absurd v
      infinite (inf t) v h = absurd v
      infinite (fin t m e) v h = never h refl

      by_value : Sized s → ⊥
      by_value w =
          let same = lt_value s x (num s) (den s) (num x) (den x) (den_pos s) (den_pos x) w v ∙ sym (lt_value s r (num s) (den s) (num x) (den x) (den_pos s) (den_pos x) w u) in
          never h (same ∙ not-true (lt s r) (sym (le_not_lt r s (num x) (den x) (num s) (den s) u w) ∙ is_true (le r s) k))

  not_over : lt x s ≡ true → T (le s r) → ⊥
  unfolding le lt eq
  not_over h k = ⊎_elim (λ (e : s ≡ inf false). infinite r u (rw e at k)) by_value kind
    where
      infinite : (y : Float) → HasValue y false (num x) (den x) → T (le (inf false) y) → ⊥
      infinite nan v h = absurd v
      infinite (inf t) v h = absurd v
      infinite (fin t m e) v h = h

      by_value : Sized s → ⊥
      by_value w =
          let same = lt_value x s (num x) (den x) (num s) (den s) (den_pos x) (den_pos s) v w ∙ sym (lt_value r s (num x) (den x) (num s) (den s) (den_pos x) (den_pos s) u w) in
          never h (same ∙ not-true (lt r s) (sym (le_not_lt s r (num s) (den s) (num x) (den x) w u) ∙ is_true (le s r) k))

module _ (a b c : ℕ) (ha : a < infinity) (hb : b < infinity) (hc : c < infinity) where
  of : (d : ℕ) → d < infinity → HasValue (time d) false (ticks (time d)) (2 ^ 1074)
  of d h = rw (ticks_size d h) (small_value binary64 d h)

  third : Sized (time c)
  third = sized (time c) (ticks (time c)) (2 ^ 1074) (of c hc)

  its_round : HasValue (round binary64 false (num (time c)) (den (time c))) false (num (time c)) (den (time c))
  its_round = own_round binary64 (time c) (of_bits-fits binary64 c) third

  sum_is : add binary64 (time a) (time b) ≡ round binary64 false (ticks (time a) * 2 ^ 1074 + ticks (time b) * 2 ^ 1074) (2 ^ 1074 * 2 ^ 1074)
  sum_is = add_value binary64 (time a) (time b) (ticks (time a)) (2 ^ 1074) (ticks (time b)) (2 ^ 1074) (pow_pos 1074) (pow_pos 1074) (of a ha) (of b hb)

  kind : (add binary64 (time a) (time b) ≡ inf false) ⊎ Sized (add binary64 (time a) (time b))
  kind = rw sum_is (rounded_kind binary64 (ticks (time a) * 2 ^ 1074 + ticks (time b) * 2 ^ 1074) (2 ^ 1074 * 2 ^ 1074))

  pub sum_under : lt (add binary64 (time a) (time b)) (time c) ≡ true → ticks (time a) + ticks (time b) < ticks (time c)
  sum_under h =
      ⊎_elim
      (λ (l : ticks (time c) ≤ ticks (time a) + ticks (time b)).
      absurd
      (not_under (add binary64 (time a) (time b)) (time c) (round binary64 false (num (time c)) (den (time c))) third its_round kind h
      (rw sum_is
      (round_mono binary64 (num (time c)) (den (time c)) (ticks (time a) * 2 ^ 1074 + ticks (time b) * 2 ^ 1074) (2 ^ 1074 * 2 ^ 1074) (den_pos (time c)) (mul-pos (pow_pos 1074) (pow_pos 1074))
      (over (ticks (time a)) (ticks (time b)) (ticks (time c)) (2 ^ 1074) (num (time c)) (den (time c)) (cross (time c) (ticks (time c)) (2 ^ 1074) (of c hc)) l)))))
      (λ l. l)
      (le_or_lt (ticks (time c)) (ticks (time a) + ticks (time b)))

  pub sum_over : lt (time c) (add binary64 (time a) (time b)) ≡ true → ticks (time c) < ticks (time a) + ticks (time b)
  sum_over h =
      ⊎_elim
      (λ (l : ticks (time a) + ticks (time b) ≤ ticks (time c)).
      absurd
      (not_over (add binary64 (time a) (time b)) (time c) (round binary64 false (num (time c)) (den (time c))) third its_round kind h
      (rw sum_is
      (round_mono binary64 (ticks (time a) * 2 ^ 1074 + ticks (time b) * 2 ^ 1074) (2 ^ 1074 * 2 ^ 1074) (num (time c)) (den (time c)) (mul-pos (pow_pos 1074) (pow_pos 1074)) (den_pos (time c))
      (under (ticks (time a)) (ticks (time b)) (ticks (time c)) (2 ^ 1074) (num (time c)) (den (time c)) (cross (time c) (ticks (time c)) (2 ^ 1074) (of c hc)) l)))))
      (λ l. l)
      (le_or_lt (ticks (time a) + ticks (time b)) (ticks (time c)))
