-- A time is its digits times a power of two, and how the sum of two such numbers compares with a third.
-- Assumes nothing.
use Rattle.std.specs.Prelude.{◌≡◌, refl, ℕ, zero, suc, ◌+◌, ◌-◌, ◌*◌, ◌/◌, ◌%◌, ◌^◌, ◌≤◌, ◌<◌}
use Rattle.std.proofs.Common.{sym, ap, ap₂, ◌∙◌, inl, inr, ⊎_elim, mul_assoc, add-mul, mul-one, mul-le-mul_right, mul-lt-mul_of_pos_right, le_trans, lt_of_lt_of_le, le-add_right, add_comm, le-div_iff_mul-le, div-lt_iff_lt-mul, div-mul-le_self, one-mul, arith, pow_pos, pow-add, pow_mono, lt-ltb, le-ltb, le-leb, leb-true}
use Rattle.std.proofs.Math.Nat.{pow-succ'}
use Rattle.std.proofs.Math.Arith.{lt_of_le-ne}
use Rattle.std.specs.Float.{binary64}
use Rattle.floats.specs.Whole.{in_units}
use Rattle.floats.specs.Ticks.{ticks}
use Rattle.chart.specs.Time.{time}
use Rattle.floats.specs.Format.{infinity}
use Rattle.chart.specs.Laws.Times.{ticks_size, ticks_leb, le_or_lt}
use Rattle.std.specs.declared.cmp.Ordering.TheVariants.{Less, Greater}
use Rattle.exact_times.specs.Compare.{order_of}
use Rattle.exact_times.specs.Digits.{digits_of, power_of, Number}
use Rattle.exact_times.specs.Laws.Orders.{less, greater, scale_add}

-- ---- the digits and the power of a time

pub small_digits : (b : ℕ) → b < 2 ^ 52 → digits_of b ≡ b
unfolding digits_of
small_digits b h = rw (lt-ltb b (2 ^ 52) h)

pub large_digits : (b : ℕ) → 2 ^ 52 ≤ b → digits_of b ≡ 2 ^ 52 + b % 2 ^ 52
unfolding digits_of
large_digits b h = rw (le-ltb b (2 ^ 52) h)

fields : (x b : ℕ) → b / 2 ^ 52 ≡ x → in_units binary64 x (b % 2 ^ 52) ≡ digits_of b * 2 ^ (x - 1)
fields zero b e =
    let small : b < 2 ^ 52 = omega arith in
    let same : b % 2 ^ 52 ≡ b = omega arith in
    rw (small_digits b small, same) (sym (mul-one b))
fields (suc x) b e =
    let large : 2 ^ 52 ≤ b = omega arith in
    let less_one : suc x - 1 ≡ x = omega arith in
    rw (large_digits b large, less_one) refl

pub parts : (b : ℕ) → b < infinity → ticks (time b) ≡ digits_of b * 2 ^ power_of b
unfolding power_of
parts b h = ticks_size b h ∙ fields (b / 2 ^ 52) b refl

pub number : (b : ℕ) → Number (digits_of b) (power_of b)
unfolding power_of
number b =
    ⊎_elim
    (λ (l : 2 ^ 52 ≤ b). rw (large_digits b l) (record { few = omega arith; full = inr (omega arith) }))
    (λ (l : b < 2 ^ 52). rw (small_digits b l) (record { few = omega arith; full = inl (omega arith) }))
    (le_or_lt (2 ^ 52) b)

pub number_twice : (b : ℕ) → Number (digits_of b) (power_of b + 1)
unfolding power_of
number_twice b =
    ⊎_elim
    (λ (l : 2 ^ 52 ≤ b). rw (large_digits b l) (record { few = omega arith; full = inr (omega arith) }))
    (λ (l : b < 2 ^ 52). rw (small_digits b l) (record { few = omega arith; full = inl (omega arith) }))
    (le_or_lt (2 ^ 52) b)

pub parts_twice : (b : ℕ) → b < infinity → 2 * ticks (time b) ≡ digits_of b * 2 ^ (power_of b + 1)
parts_twice b h = rw (parts b h, pow-add 2 (power_of b) 1) (twice (digits_of b) (2 ^ power_of b))
  where
    twice : (d k : ℕ) → 2 * (d * k) ≡ d * (k * 2)
    twice d k = omega (arith, mul_assoc d k 2)

-- a power above 0 goes with all 53 bits
full : (b : ℕ) → 0 < power_of b → 2 ^ 52 ≤ digits_of b
unfolding power_of
full b h = let large : 2 ^ 52 ≤ b = omega arith in rw (large_digits b large) (omega arith)

pub power_mono : (b a : ℕ) → b ≤ a → power_of b ≤ power_of a
unfolding power_of
power_mono b a h = omega arith

later : (b a : ℕ) → b ≤ a → a < infinity → ticks (time b) ≤ ticks (time a)
later b a h k = leb-true (ticks (time b)) (ticks (time a)) (ticks_leb b a (omega arith) k ∙ le-leb b a h)

-- ---- a sum beside m * 2 ^ e

-- numbers alone, with a variable for each power of two
low_sum : (m k d p : ℕ) → m < 2 ^ 53 → 0 < k → 2 * k ≤ p → 2 ^ 52 ≤ d → m * k < d * p
low_sum m k d p few K next hd = omega (arith, mul-lt-mul_of_pos_right few K, mul-le-mul_right p hd)

high_sum : (t u m k d p : ℕ) → t ≡ d * p → u ≤ t → d < 2 ^ 53 → 0 < p → 4 * p ≤ k → 2 ^ 52 ≤ m → t + u < m * k
high_sum t u m k d p e h hd P far hm = omega (arith, mul-lt-mul_of_pos_right hd P, mul-le-mul_right k hm)

module _ (a b m e : ℕ) (ha : a < infinity) (hb : b ≤ a) (num : Number m e) where
  -- m * 2 ^ e lies below the later time
  pub below : e < power_of a → Greater ≡ order_of (ticks (time a) + ticks (time b)) (m * 2 ^ e)
  below h =
      let next : 2 * 2 ^ e ≤ 2 ^ power_of a = rw (← (pow-succ' 2 e)) (pow_mono h) in
      let l = low_sum m (2 ^ e) (digits_of a) (2 ^ power_of a) num.few (pow_pos e) next (full a (omega arith)) in
      greater (ticks (time a) + ticks (time b)) (m * 2 ^ e) (lt_of_lt_of_le (rw (← (parts a ha)) at l) (le-add_right (ticks (time a)) (ticks (time b))))

  -- m * 2 ^ e lies above the double of the later time
  pub beyond : power_of a + 1 < e → Less ≡ order_of (ticks (time a) + ticks (time b)) (m * 2 ^ e)
  beyond h =
      let far : 4 * 2 ^ power_of a ≤ 2 ^ e = rw (← (pow-add 2 2 (power_of a))) (pow_mono (omega arith)) in
      let full : 2 ^ 52 ≤ m = ⊎_elim (λ (l : e ≤ 1). absurd (omega arith)) (λ (l : 2 ^ 52 ≤ m). l) num.full in
      less (ticks (time a) + ticks (time b)) (m * 2 ^ e)
      (high_sum (ticks (time a)) (ticks (time b)) m (2 ^ e) (digits_of a) (2 ^ power_of a) (parts a ha) (later b a hb ha) (number a).few (pow_pos (power_of a)) far full)

  -- m * 2 ^ e at the power of the later time
  moved : (k : ℕ) → power_of a + k ≡ e → m * 2 ^ e ≡ m * 2 ^ k * 2 ^ power_of a
  moved k h = rw (← h, add_comm (power_of a) k, pow-add 2 k (power_of a)) (sym (mul_assoc m (2 ^ k) (2 ^ power_of a)))

  pub short : (k : ℕ) → power_of a + k ≡ e → m * 2 ^ k < digits_of a → Greater ≡ order_of (ticks (time a) + ticks (time b)) (m * 2 ^ e)
  short k h l =
      let under : m * 2 ^ k * 2 ^ power_of a < digits_of a * 2 ^ power_of a = mul-lt-mul_of_pos_right l (pow_pos (power_of a)) in
      rw (moved k h)
      (greater (ticks (time a) + ticks (time b)) (m * 2 ^ k * 2 ^ power_of a)
      (lt_of_lt_of_le (rw (← (parts a ha)) at under) (le-add_right (ticks (time a)) (ticks (time b)))))

  -- where the later time a is within the bound: b is compared with the bound less a
  pub left_over : (k : ℕ) → power_of a + k ≡ e → digits_of a ≤ m * 2 ^ k
      → order_of (digits_of b) ((m * 2 ^ k - digits_of a) * 2 ^ (power_of a - power_of b)) ≡ order_of (ticks (time a) + ticks (time b)) (m * 2 ^ e)
  left_over k h l =
      let gap : power_of a ≡ power_of a - power_of b + power_of b = omega (arith, power_mono b a hb) in
      let d : ℕ = digits_of a in
      let rest : ℕ = m * 2 ^ k - d in
      let s : ℕ = 2 ^ (power_of a - power_of b) in
      let q : ℕ = 2 ^ power_of b in
      let p_is : 2 ^ power_of a ≡ s * q = ap (λ (n : ℕ). 2 ^ n) gap ∙ pow-add 2 (power_of a - power_of b) (power_of b) in
      let all : m * 2 ^ k ≡ d + rest = omega arith in
      let first : ticks (time a) ≡ d * s * q = parts a ha ∙ ap (λ (n : ℕ). d * n) p_is ∙ sym (mul_assoc d s q) in
      let whole : m * 2 ^ e ≡ d * s * q + rest * s * q =
      moved k h ∙ ap (λ (n : ℕ). n * 2 ^ power_of a) all ∙ ap (λ (n : ℕ). (d + rest) * n) p_is ∙ add-mul d rest (s * q) ∙ ap₂ (λ (x y : ℕ). x + y) (sym (mul_assoc d s q)) (sym (mul_assoc rest s q)) in
      sym (ap₂ order_of (ap₂ (λ (x y : ℕ). x + y) first (parts b (omega arith))) whole ∙ scale_add (d * s) (digits_of b) (rest * s) q (pow_pos (power_of b)))

-- ---- n beside rest * 2 ^ shift, by n's quotient

module _ (n rest shift : ℕ) where
  pub quotient_below : n / 2 ^ shift < rest → Less ≡ order_of n (rest * 2 ^ shift)
  quotient_below h = less n (rest * 2 ^ shift) ((div-lt_iff_lt-mul (pow_pos shift)).0 h)

  pub quotient_above : rest < n / 2 ^ shift → Greater ≡ order_of n (rest * 2 ^ shift)
  quotient_above h =
      let more : suc rest * 2 ^ shift ≤ n = (le-div_iff_mul-le (pow_pos shift)).0 h in
      greater n (rest * 2 ^ shift) (omega (arith, pow_pos shift, add-mul 1 rest (2 ^ shift), ap (λ (x : ℕ). x * 2 ^ shift) (add_comm 1 rest)))

  -- digits of n fall out, unless there are none
  pub quotient_rest : n / 2 ^ shift ≡ rest → (rest * 2 ^ shift ≡ n → ⊥) → Greater ≡ order_of n (rest * 2 ^ shift)
  quotient_rest h differ = greater n (rest * 2 ^ shift) (lt_of_le-ne (rw h at (div-mul-le_self n (2 ^ shift))) differ)

  pub too_far : 0 < rest → n < 2 ^ 64 → 63 < shift → Less ≡ order_of n (rest * 2 ^ shift)
  too_far h l k =
      let big : 2 ^ 64 ≤ 2 ^ shift = pow_mono k in
      less n (rest * 2 ^ shift) (lt_of_lt_of_le l (le_trans big (rw (one-mul (2 ^ shift)) at (mul-le-mul_right (2 ^ shift) h))))
