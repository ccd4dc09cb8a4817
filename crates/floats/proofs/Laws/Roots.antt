-- The root of a float is the nearest value of its format, ties to even (`root_nearest`); roots of numbers in order are in order (`nearest_root_mono`); and a
-- root is below a value exactly where the number is below the square of the middle between that value and the one before (`root_under`). Assumes nothing.
use Rattle.std.specs.Prelude.{◌≡◌, ℕ, zero, suc, ◌+◌, ◌-◌, ◌*◌, ◌/◌, ◌%◌, ◌^◌, ◌<◌, ◌≤◌, Bool, true, false, cond, T, ◌⊎◌, nat_le, nat_lt, refl, Float}
use Rattle.std.proofs.Common.{sym, ap, ◌∙◌, subst, le_trans, le_of_eq, le_of_lt, eq-or-lt_of_le, le_of_suc-le-suc, le_refl, le_antisymm, lt_of_mul-lt-mul_right, lt_of_lt_of_le, lt_of_le_of_lt, mul-pos, mul_assoc, mul-le-mul, mul-le-mul_left, mul-le-mul_right, one-mul, add_comm, add-zero, add-le-add, sub-add_cancel, div-lt_iff_lt-mul, le-div_iff_mul-le, pow-suc, mul-div_cancel, add-one, arith, inl, inr, leb-true, leb-false, lt-ltb, le-ltb, lit<, lit≤, pow_pos, pow_mono, pow-add}
use Prim.Native.Nat.{compare, Ordering}
use Rattle.std.proofs.Math.Nat.{mul-mul-mul_comm, eq_of_mul-eq-mul_right, pow-succ'}
use Rattle.std.proofs.Math.Pow.{pow-lt}
use Rattle.std.specs.Float.{nan, inf, fin, Format, binary32, binary64}
use Rattle.std.specs.Float.Ieee.{down, prec, emax, low, size, nearest, units, lt, le}
use Rattle.std.specs.Float.Ieee.Digits as Digits
use Rattle.std.specs.Float.Ieee.Exact.{HasValue, units_val}
use Rattle.std.specs.Float.Ieee.Fits.{down_pos, two}
use Rattle.std.specs.Float.Ieee.Order.{le_of_values}
use Rattle.std.specs.Float.Ieee.Scale.{overflow}
use Rattle.floats.specs.Root.{square, whole_root, dropped, leading, rounded_root, nearest_root, root, Value, Nearest, IsNearest}
use Rattle.floats.specs.Laws.Rounding.{less, more, same, lt_or_ge}
use Rattle.floats.specs.Laws.Values.{lt_value}
use Rattle.floats.specs.Laws.Times.{scaled}

-- ---- the whole root

pub record WholeRoot (n r : ℕ) : Type 0 where
  pub low : square r ≤ n
  pub high : n < square (suc r)

quarter : (n m d : ℕ) → n / 4 ≡ m → n < 4 * d → m < d
quarter n m d e h = omega arith

step : (b : Bool) (n s m : ℕ) → n / 4 ≡ m → WholeRoot m s → nat_le (square (2 * s + 1)) n ≡ b → WholeRoot n (cond b (2 * s + 1) (2 * s))
step true n s m e w t = record { low = leb-true (square (2 * s + 1)) n t; high = omega (arith, w.high) }
step false n s m e w t = record { low = omega (arith, w.low); high = omega (arith, leb-false (square (2 * s + 1)) n t) }

pub whole_root_law : (d n : ℕ) → n < square (2 ^ d) → WholeRoot n (whole_root d n)
unfolding whole_root
whole_root_law zero n h = record { low = omega arith; high = omega arith }
whole_root_law (suc d) n h =
    step (nat_le (square (2 * whole_root d (n / 4) + 1)) n) n (whole_root d (n / 4)) (n / 4) refl (whole_root_law d (n / 4) (quarter n (n / 4) (square (2 ^ d)) refl (subst (λ (z : ℕ). n < z) (grow (2 ^ d)) (rw (pow-succ' 2 d) at h)))) refl
  where
    grow : (p : ℕ) → square (2 * p) ≡ 4 * square p
    grow p = omega arith

-- ---- the digits that a format keeps of a root

pub square_mono : {a b : ℕ} → a ≤ b → square a ≤ square b
square_mono h = mul-le-mul h h

pub square_back : (a b : ℕ) → square a < square b → a < b
square_back a b h = elim (lt_or_ge a b) [ inl l ↦ l | inr g ↦ absurd (no (square a) (square b) h (square_mono g)) ]
  where
    no : (x y : ℕ) → x < y → y ≤ x → ⊥
    no x y i j = omega arith

square_mul : (a b : ℕ) → square a * square b ≡ square (a * b)
square_mul a b = mul-mul-mul_comm a a b b

square_pow : (a : ℕ) → 2 ^ (a + a) ≡ square (2 ^ a)
square_pow a = pow-add 2 a a

halves : (s p : ℕ) → s ≤ (p + ((s + 1) / 2 - p)) + (p + ((s + 1) / 2 - p))
halves s p = omega arith

module _ (f : Format) (n : ℕ) where
  abbrev u : ℕ
  u = 2 ^ dropped f n

  abbrev q : ℕ
  q = leading f n

  u_pos : 0 < u
  u_pos = pow_pos (dropped f n)

  below_all : n < square (2 ^ prec f * u)
  below_all =
      let a = prec f + dropped f n in
      lt_of_lt_of_le (Digits.size-lt n) (le_trans (pow_mono (halves (size n) (prec f))) (le_of_eq (square_pow a ∙ ap square (pow-add 2 (prec f) (dropped f n)))))

  part_lt : n / square u < square (2 ^ prec f)
  part_lt = (div-lt_iff_lt-mul (mul-pos u_pos u_pos)).1 (subst (λ (z : ℕ). n < z) (sym (square_mul (2 ^ prec f) u)) below_all)

  parts : WholeRoot (n / square u) q
  parts = whole_root_law (prec f) (n / square u) part_lt

  q_low : square (q * u) ≤ n
  q_low = subst (λ (z : ℕ). z ≤ n) (square_mul q u) ((le-div_iff_mul-le (mul-pos u_pos u_pos)).0 parts.low)

  q_high : n < square (suc q * u)
  q_high = subst (λ (z : ℕ). n < z) (square_mul (suc q) u) ((div-lt_iff_lt-mul (mul-pos u_pos u_pos)).0 parts.high)

  q_small : q < 2 ^ prec f
  q_small = square_back q (2 ^ prec f) (lt_of_le_of_lt parts.low part_lt)

  -- where digits are dropped, all that the format keeps are there
  q_full : 0 < dropped f n → 2 ^ (prec f - 1) ≤ q
  q_full d =
      let a = prec f - 1 + dropped f n in
      let r : square (2 ^ a) ≤ n = le_trans (le_of_eq (sym (square_pow a))) (Digits.size_reaches n (a + a) (reach (size n) (prec f) (two f) d)) in
      let l : 2 ^ (prec f - 1) * u < suc q * u = subst (λ (z : ℕ). z < suc q * u) (pow-add 2 (prec f - 1) (dropped f n)) (square_back (2 ^ a) (suc q * u) (lt_of_le_of_lt r q_high)) in
      le_of_suc-le-suc (lt_of_mul-lt-mul_right u l)
    where
      reach : (s p : ℕ) → 2 ≤ p → 0 < (s + 1) / 2 - p → (p - 1 + ((s + 1) / 2 - p)) + (p - 1 + ((s + 1) / 2 - p)) < s
      reach s p h k = omega arith

-- ---- the nearest root is nearest

double_half : (p : ℕ) → 2 ≤ p → 2 ^ p ≡ 2 ^ (p - 1) * 2
double_half p h = ap (λ (z : ℕ). 2 ^ z) (go p h) ∙ pow-suc 2 (p - 1)
  where
    go : (p : ℕ) → 2 ≤ p → p ≡ suc (p - 1)
    go p h = omega arith

value_at : (f : Format) (h j : ℕ) → h < 2 ^ prec f → Value f (h * 2 ^ j)
value_at f h j l = record { digits = h; zeros = j; few = l; is = refl }

value_next : (f : Format) (h j : ℕ) → h < 2 ^ prec f → Value f (suc h * 2 ^ j)
value_next f h j l = elim (eq-or-lt_of_le l) [
  | inl e ↦ record {
    digits = 2 ^ (prec f - 1);
    zeros = suc j;
    few = half_lt (2 ^ (prec f - 1)) (2 ^ prec f) (pow_pos (prec f - 1)) (double_half (prec f) (two f));
    is = ap (λ (z : ℕ). z * 2 ^ j) (e ∙ double_half (prec f) (two f)) ∙ mul_assoc (2 ^ (prec f - 1)) 2 (2 ^ j) ∙ ap (λ (z : ℕ). 2 ^ (prec f - 1) * z) (sym (pow-succ' 2 j));
  }
  | inr g ↦ value_at f (suc h) j g
]
  where
    half_lt : (a b : ℕ) → 0 < a → b ≡ a * 2 → a < b
    half_lt a b A e = omega arith

-- h * 2 ^ j and (h + 1) * 2 ^ j, where h has all its digits or j is 0, are neighbours
neighbours : (f : Format) (h j b : ℕ) → (0 < j → 2 ^ (prec f - 1) ≤ h) → Value f b → (b ≤ h * 2 ^ j) ⊎ (suc h * 2 ^ j ≤ b)
neighbours f h j b full v = elim (lt_or_ge v.zeros j) [
  | inl l ↦
      inl
      (le_trans (le_of_eq v.is)
      (le_trans (mul-le-mul_right (2 ^ v.zeros) (le_of_lt v.few))
      (le_trans (le_of_eq (ap (λ (z : ℕ). z * 2 ^ v.zeros) (double_half (prec f) (two f)) ∙ mul_assoc (2 ^ (prec f - 1)) 2 (2 ^ v.zeros) ∙ ap (λ (z : ℕ). 2 ^ (prec f - 1) * z) (sym (pow-succ' 2 v.zeros))))
      (mul-le-mul (full (some v.zeros j l)) (pow_mono l)))))
  | inr g ↦ multiple (v.digits * 2 ^ (v.zeros - j)) (v.is ∙ ap (λ (z : ℕ). v.digits * z) (split g) ∙ sym (mul_assoc v.digits (2 ^ (v.zeros - j)) (2 ^ j)))
]
  where
    some : (a b : ℕ) → a < b → 0 < b
    some a b h = omega arith

    split : j ≤ v.zeros → 2 ^ v.zeros ≡ 2 ^ (v.zeros - j) * 2 ^ j
    split g = ap (λ (z : ℕ). 2 ^ z) (sym (sub-add_cancel g)) ∙ pow-add 2 (v.zeros - j) j

    multiple : (m : ℕ) → b ≡ m * 2 ^ j → (b ≤ h * 2 ^ j) ⊎ (suc h * 2 ^ j ≤ b)
    multiple m e = elim (lt_or_ge h m) [
      | inl l ↦ inr (le_trans (mul-le-mul_right (2 ^ j) l) (le_of_eq (sym e)))
      | inr g ↦ inl (le_trans (le_of_eq e) (mul-le-mul_right (2 ^ j) g))
    ]

next_over : (h p : ℕ) → 0 < p → h * p < suc h * p
next_over h p k = omega arith

square_twice : (a : ℕ) → square (a + a) ≡ 4 * square a
square_twice a = omega arith

clash : (x y : ℕ) → x < y → y ≤ x → ⊥
clash x y h k = omega arith

module _ (f : Format) (n : ℕ) where
  -- the nearest root of n, in the format's smallest units
  abbrev pub root_units : ℕ
  root_units = rounded_root f n * 2 ^ dropped f n

  abbrev lower : ℕ
  lower = q f n * u f n

  abbrev upper : ℕ
  upper = suc (q f n) * u f n

  middle_is : square ((2 * q f n + 1) * u f n) ≡ square (lower + upper)
  middle_is = ap square (go (q f n) (u f n))
    where
      go : (a b : ℕ) → (2 * a + 1) * b ≡ a * b + suc a * b
      go a b = omega arith

  -- it is the lower or the upper, by the middle
  abbrev Chosen : ℕ → Type 0
  Chosen c = ((c ≡ lower) × (4 * n ≤ square (lower + upper))) ⊎ ((c ≡ upper) × (square (lower + upper) ≤ 4 * n))

  chosen : Chosen root_units
  chosen = elim (lt_or_ge (4 * n) m) [
    | inl l ↦ inl (ap taken (less (4 * n) m l), le_trans (le_of_lt l) (le_of_eq middle_is))
    | inr g ↦ elim (eq-or-lt_of_le g) [
      | inl t ↦ subst Chosen (sym (ap (λ (z : ℕ). taken (compare (4 * n) z)) t ∙ ap taken (same (4 * n)))) (at_middle (q f n % 2) (mod_two (q f n)) (le_of_eq (sym t ∙ middle_is)) (le_trans (le_of_eq (sym middle_is)) g))
      | inr l ↦ inr (ap taken (more (4 * n) m l), le_trans (le_of_eq (sym middle_is)) (le_of_lt l))
    ]
  ]
    where
      m : ℕ
      m = square ((2 * q f n + 1) * u f n)

      taken : Ordering → ℕ
      taken o = nearest (q f n) o * u f n

      mod_two : (a : ℕ) → (a % 2 ≡ 0) ⊎ (a % 2 ≡ 1)
      mod_two a = elim (lt_or_ge (a % 2) 1) [ inl l ↦ inl (omega arith) | inr g ↦ inr (omega arith) ]

      at_middle : (r : ℕ) → (r ≡ 0) ⊎ (r ≡ 1) → 4 * n ≤ square (lower + upper) → square (lower + upper) ≤ 4 * n → Chosen ((q f n + r) * u f n)
      at_middle r (inl e) i k = inl (ap (λ (z : ℕ). (q f n + z) * u f n) e ∙ ap (λ (z : ℕ). z * u f n) (add-zero (q f n)), i)
      at_middle r (inr e) i k = inr (ap (λ (z : ℕ). (q f n + z) * u f n) e ∙ ap (λ (z : ℕ). z * u f n) (add-one (q f n)), k)

  near_above : (c : ℕ) → Chosen c → (b : ℕ) → Value f b → b < c → square (b + c) ≤ 4 * n
  near_above c (inl t) b v l =
      le_trans (square_mono (add-le-add (le_trans (le_of_lt l) (le_of_eq t.0)) (le_of_eq t.0)))
      (le_trans (le_of_eq (square_twice lower)) (mul-le-mul_left 4 (q_low f n)))
  near_above c (inr t) b v l = elim (neighbours f (q f n) (dropped f n) b (q_full f n) v) [
    | inl k ↦ le_trans (square_mono (add-le-add k (le_of_eq t.0))) t.1
    | inr k ↦ absurd (clash b c l (le_trans (le_of_eq t.0) k))
  ]

  near_below : (c : ℕ) → Chosen c → (b : ℕ) → Value f b → c < b → 4 * n ≤ square (b + c)
  near_below c (inl t) b v l = elim (neighbours f (q f n) (dropped f n) b (q_full f n) v) [
    | inl k ↦ absurd (clash c b l (le_trans k (le_of_eq (sym t.0))))
    | inr k ↦ le_trans t.1 (square_mono (le_trans (le_of_eq (add_comm lower upper)) (add-le-add k (le_of_eq (sym t.0)))))
  ]
  near_below c (inr t) b v l =
      le_trans (mul-le-mul_left 4 (le_of_lt (q_high f n)))
      (le_trans (le_of_eq (sym (square_twice upper))) (square_mono (add-le-add (le_trans (le_of_eq (sym t.0)) (le_of_lt l)) (le_of_eq (sym t.0)))))

  root_value : (c : ℕ) → Chosen c → Value f c
  root_value c (inl t) = subst (Value f) (sym t.0) (value_at f (q f n) (dropped f n) (q_small f n))
  root_value c (inr t) = subst (Value f) (sym t.0) (value_next f (q f n) (dropped f n) (q_small f n))

  -- where the root is the middle of two neighbours, they are the lower and the upper
  tie : (h j : ℕ) → 2 ^ (prec f - 1) ≤ h → h < 2 ^ prec f → 4 * n ≡ square (h * 2 ^ j + suc h * 2 ^ j) → root_units ≡ (h + h % 2) * 2 ^ j
  tie h j least most e =
      ap (λ (z : ℕ). nearest (q f n) (compare (4 * n) z) * u f n) (middle_is ∙ ap square (ap (λ (z : ℕ). z + upper) low_same ∙ ap (λ (z : ℕ). h * 2 ^ j + z) high_same) ∙ sym e)
      ∙ ap (λ (o : Ordering). nearest (q f n) o * u f n) (same (4 * n))
      ∙ ap (λ (z : ℕ). (z + z % 2) * u f n) digits_same
      ∙ ap (λ (z : ℕ). (h + h % 2) * z) units_same
    where
      full : 0 < j → 2 ^ (prec f - 1) ≤ h
      full k = least

      P : 0 < 2 ^ j
      P = pow_pos j

      outside : (a b c m : ℕ) → 0 < b → 4 * m ≡ square (a * b + suc a * b) → c ≤ a * b → m < square c → ⊥
      outside a b c m B e l k = omega (arith, square_mono l)

      beyond : (a b c m : ℕ) → 0 < b → 4 * m ≡ square (a * b + suc a * b) → suc a * b ≤ c → square c ≤ m → ⊥
      beyond a b c m B e l k = omega (arith, square_mono l, mul-pos B B)

      low_in : h * 2 ^ j ≤ lower
      low_in = elim (neighbours f (q f n) (dropped f n) (h * 2 ^ j) (q_full f n) (value_at f h j most)) [ inl k ↦ k | inr k ↦ absurd (outside h (2 ^ j) upper n P e k (q_high f n)) ]

      high_in : upper ≤ suc h * 2 ^ j
      high_in = elim (neighbours f (q f n) (dropped f n) (suc h * 2 ^ j) (q_full f n) (value_next f h j most)) [ inl k ↦ absurd (beyond h (2 ^ j) lower n P e k (q_low f n)) | inr k ↦ k ]

      lower_lt : lower < upper
      lower_lt = next_over (q f n) (u f n) (u_pos f n)

      low_same : lower ≡ h * 2 ^ j
      low_same = elim (neighbours f h j lower full (value_at f (q f n) (dropped f n) (q_small f n))) [
        | inl k ↦ le_antisymm k low_in
        | inr k ↦ absurd (clash lower upper lower_lt (le_trans high_in k))
      ]

      high_same : upper ≡ suc h * 2 ^ j
      high_same = elim (neighbours f h j upper full (value_next f (q f n) (dropped f n) (q_small f n))) [
        | inl k ↦ absurd (clash lower upper lower_lt (le_trans k low_in))
        | inr k ↦ le_antisymm high_in k
      ]

      units_same : u f n ≡ 2 ^ j
      units_same = go (q f n) h (u f n) (2 ^ j) low_same high_same
        where
          go : (a b c d : ℕ) → a * c ≡ b * d → suc a * c ≡ suc b * d → c ≡ d
          go a b c d i k = omega arith

      digits_same : q f n ≡ h
      digits_same = eq_of_mul-eq-mul_right (2 ^ j) P (q f n) h (ap (λ (z : ℕ). q f n * z) (sym units_same) ∙ low_same)

  pub nearest_root_law : Nearest f n root_units
  nearest_root_law = record { value = root_value root_units chosen; above = near_above root_units chosen; below = near_below root_units chosen; even = tie }

-- ---- it is monotone, and where it is below a value

pub root_units_mono : (f : Format) (m n : ℕ) → m ≤ n → root_units f m ≤ root_units f n
root_units_mono f m n h = elim (lt_or_ge (root_units f n) (root_units f m)) [
  | inl l ↦
      absurd (clash (root_units f n) (root_units f m) l
      (le_of_eq (ap (root_units f) (le_antisymm h
      (quartered m n (le_trans ((nearest_root_law f n).below (root_units f m) (nearest_root_law f m).value l)
      (le_trans (le_of_eq (ap square (add_comm (root_units f m) (root_units f n)))) ((nearest_root_law f m).above (root_units f n) (nearest_root_law f n).value l))))))))
  | inr g ↦ g
]
  where
    quartered : (m n : ℕ) → 4 * n ≤ 4 * m → n ≤ m
    quartered m n h = omega arith

-- of two neighbours, the upper one even: the nearest root is below it exactly where the root is below the middle
root_units_under : (f : Format) (n h j : ℕ) → 2 ^ (prec f - 1) ≤ h → h < 2 ^ prec f → h % 2 ≡ 1
    → nat_lt (root_units f n) (suc h * 2 ^ j) ≡ nat_lt (4 * n) (square (h * 2 ^ j + suc h * 2 ^ j))
root_units_under f n h j least most odd = elim (lt_or_ge r high) [
  | inl l ↦ lt-ltb _ _ l ∙ sym (lt-ltb _ _ (under l))
  | inr g ↦ le-ltb _ _ g ∙ sym (le-ltb _ _ (le_trans (square_mono (add-le-add (le_refl low') g)) (near.above low' (value_at f h j most) (lt_of_lt_of_le lower_lt g))))
]
  where
    r : ℕ
    r = root_units f n

    low' : ℕ
    low' = h * 2 ^ j

    high : ℕ
    high = suc h * 2 ^ j

    near : Nearest f n r
    near = nearest_root_law f n

    lower_lt : low' < high
    lower_lt = next_over h (2 ^ j) (pow_pos j)

    even_up : (h : ℕ) → h % 2 ≡ 1 → h + h % 2 ≡ suc h
    even_up h odd = omega arith

    not_above : r < high → r ≤ low'
    not_above l = elim (neighbours f h j r (λ (z : 0 < j). least) near.value) [ inl k ↦ k | inr k ↦ absurd (clash r high l k) ]

    under : r < high → 4 * n < square (low' + high)
    under l = elim (eq-or-lt_of_le (le_trans (near.below high (value_next f h j most) l) (square_mono (le_trans (le_of_eq (add_comm high r)) (add-le-add (not_above l) (le_refl high)))))) [
      | inl e ↦ absurd (clash r high l (le_of_eq (sym (near.even h j least most e ∙ ap (λ (z : ℕ). z * 2 ^ j) (even_up h odd)))))
      | inr k ↦ k
    ]

-- ---- as floats

-- from `overflow` units on, an infinity
units_infinite : (f : Format) (Q k : ℕ) → overflow f ≤ Q * 2 ^ k → units f false Q k ≡ inf false
units_infinite f Q k g = unfold units in rw (le-ltb (Q * 2 ^ k) (overflow f) g)

-- an infinity is not below a value, and no value is above it
pub under_infinity : (y : Float) (a c : ℕ) → HasValue y false a c → lt (inf false) y ≡ false
unfolding lt
under_infinity nan a c w = absurd w
under_infinity (inf s) a c w = absurd w
under_infinity (fin s m e) a c w = refl

up_to_infinity : (x : Float) (a c : ℕ) → HasValue x false a c → T (le x (inf false))
unfolding le
up_to_infinity nan a c v = absurd v
up_to_infinity (inf s) a c v = absurd v
up_to_infinity (fin true m e) a c v = absurd (subst T v.0 tt)
up_to_infinity (fin false m e) a c v = tt

units_up_to_infinity : (f : Format) (Q k : ℕ) → T (le (units f false Q k) (inf false))
units_up_to_infinity f Q k = elim (lt_or_ge (Q * 2 ^ k) (overflow f)) [
  | inl l ↦ up_to_infinity (units f false Q k) (Q * 2 ^ k) (2 ^ low f) (units_val f false Q k l)
  | inr g ↦ subst (λ (z : Float). T (le z (inf false))) (sym (units_infinite f Q k g)) (unfold le in tt)
]

lt_units : (f : Format) (Q k : ℕ) (y : Float) (G : ℕ) → HasValue y false G (2 ^ low f) → G ≤ overflow f → lt (units f false Q k) y ≡ nat_lt (Q * 2 ^ k) G
lt_units f Q k y G v h = elim (lt_or_ge (Q * 2 ^ k) (overflow f)) [
  | inl l ↦
      lt_value (units f false Q k) y (Q * 2 ^ k) (2 ^ low f) G (2 ^ low f) (pow_pos (low f)) (pow_pos (low f)) (units_val f false Q k l) v
      ∙ scaled (Q * 2 ^ k) G (2 ^ low f) (pow_pos (low f))
  | inr g ↦ ap (λ (z : Float). lt z y) (units_infinite f Q k g) ∙ under_infinity y G (2 ^ low f) v ∙ sym (le-ltb _ _ (le_trans h g))
]

le_units : (f : Format) (Q j R k : ℕ) → Q * 2 ^ j ≤ R * 2 ^ k → T (le (units f false Q j) (units f false R k))
le_units f Q j R k h = elim (lt_or_ge (R * 2 ^ k) (overflow f)) [
  | inl l ↦
      le_of_values (units f false Q j) (units f false R k) (Q * 2 ^ j) (2 ^ low f) (R * 2 ^ k) (2 ^ low f) (pow_pos (low f)) (pow_pos (low f))
      (units_val f false Q j (lt_of_le_of_lt h l)) (units_val f false R k l) (mul-le-mul_right (2 ^ low f) h)
  | inr g ↦ subst (λ (z : Float). T (le (units f false Q j) z)) (sym (units_infinite f R k g)) (units_up_to_infinity f Q j)
]

-- of numbers in order the nearest roots are in order
pub nearest_root_mono : (f : Format) (m n : ℕ) → m ≤ n → T (le (nearest_root f false m) (nearest_root f false n))
unfolding nearest_root
nearest_root_mono f m n h = le_units f _ _ _ _ (root_units_mono f m n h)

pub nearest_root_up_to_infinity : (f : Format) (n : ℕ) → T (le (nearest_root f false n) (inf false))
unfolding nearest_root
nearest_root_up_to_infinity f n = units_up_to_infinity f _ _

root_of : (f : Format) (x : Float) (a : ℕ) → HasValue x false a (2 ^ low f) → root f x ≡ nearest_root f false (a * 2 ^ low f)
unfolding root
root_of f nan a v = absurd v
root_of f (inf s) a v = absurd v
root_of f (fin true m e) a v = absurd (subst T v.0 tt)
root_of f (fin false m e) a v = ap (λ (z : ℕ). nearest_root f false (z * 2 ^ low f)) (ap (λ (z : ℕ). z / down e) v.1 ∙ mul-div_cancel a (down_pos e))

-- the root of a finite value is no infinity
root_small : (f : Format) (a : ℕ) → a < overflow f → root_units f (a * 2 ^ low f) < overflow f
root_small f a h = lt_of_le_of_lt not_above (pow-lt (more (low f) (emax f)))
  where
    most : ℕ
    most = 2 ^ (low f + emax f)

    more : (l e : ℕ) → l + e < l + suc e
    more l e = omega arith

    one_digit : (f : Format) → 1 < 2 ^ prec f
    one_digit binary32 = lit< tt
    one_digit binary64 = lit< tt

    room : (f : Format) → low f + suc (emax f) + low f ≤ low f + emax f + (low f + emax f)
    room binary32 = lit≤ tt
    room binary64 = lit≤ tt

    n_small : a * 2 ^ low f ≤ square most
    n_small =
        le_trans (mul-le-mul_right (2 ^ low f) (le_of_lt h))
        (le_trans (le_of_eq (sym (pow-add 2 (low f + suc (emax f)) (low f)))) (le_trans (pow_mono (room f)) (le_of_eq (square_pow (low f + emax f)))))

    beyond : (b r n : ℕ) → b < r → n ≤ square b → square (b + r) ≤ 4 * n → ⊥
    beyond b r n l i k = clash (b + b) (b + r) (omega arith) (le_of_suc-le-suc (square_back (b + r) (suc (b + b)) (omega arith)))

    not_above : root_units f (a * 2 ^ low f) ≤ most
    not_above = elim (lt_or_ge most (root_units f (a * 2 ^ low f))) [
      | inl l ↦
          absurd (beyond most (root_units f (a * 2 ^ low f)) (a * 2 ^ low f) l n_small
          ((nearest_root_law f (a * 2 ^ low f)).above most (record { digits = 1; zeros = low f + emax f; few = one_digit f; is = sym (one-mul most) }) l))
      | inr g ↦ g
    ]

-- the root of a finite value with a clear sign is finite, and the nearest: a unit is 2 ^ -low, so the root of `a` units is that of a * 2 ^ low, in units
pub root_nearest : (f : Format) (x : Float) (a : ℕ) → HasValue x false a (2 ^ low f) → a < overflow f → IsNearest f (a * 2 ^ low f) (root f x)
unfolding nearest_root
root_nearest f x a v h = record {
  size = root_units f (a * 2 ^ low f);
  has = subst (λ (z : Float). HasValue z false (root_units f (a * 2 ^ low f)) (2 ^ low f)) (sym (root_of f x a v)) (units_val f false _ _ (root_small f a h));
  near = nearest_root_law f (a * 2 ^ low f);
}

-- the nearest root of a value of `a` units is below the value of (h + 1) * 2 ^ j units, h odd, exactly where the root is below the middle between that value
-- and the one before
pub root_under : (f : Format) (x y : Float) (a h j : ℕ) → HasValue x false a (2 ^ low f) → HasValue y false (suc h * 2 ^ j) (2 ^ low f)
    → h % 2 ≡ 1 → 2 ^ (prec f - 1) ≤ h → h < 2 ^ prec f → suc h * 2 ^ j ≤ overflow f
    → lt (root f x) y ≡ nat_lt (4 * (a * 2 ^ low f)) (square (h * 2 ^ j + suc h * 2 ^ j))
unfolding nearest_root
root_under f x y a h j v w odd least most small =
    ap (λ (z : Float). lt z y) (root_of f x a v) ∙ lt_units f _ _ y (suc h * 2 ^ j) w small ∙ root_units_under f (a * 2 ^ low f) h j least most odd
