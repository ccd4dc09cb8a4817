-- A larger value has no smaller product, quotient, sum and count; and a whole number between two counts lies between the values. Assumes nothing.
use Rattle.std.specs.Prelude.{◌≡◌, ℕ, ◌+◌, ◌-◌, ◌*◌, ◌^◌, ◌<◌, ◌≤◌, min, false, not, T, Float}
use Rattle.std.proofs.Common.{sym, ap, ◌∙◌, subst, le_trans, le_of_eq, le_of_lt, mul-pos, mul-one, mul-le-mul_right, arith, inl, inr, le-ltb, lit<}
use Rattle.std.specs.Float.{Format}
use Rattle.std.specs.Float.Ieee.{round, add, mul, div, le}
use Rattle.std.specs.Float.Ieee.Exact.{HasValue}
use Rattle.std.specs.Float.Ieee.Nearest.{closest_mono, div_mono}
use Rattle.std.specs.Float.Ieee.Order.{round_mono}
use Rattle.std.specs.Float.Ieee.Positive.{num, den, den_pos}
use Rattle.floats.specs.declared.Way.{Way}
use Rattle.floats.specs.declared.Way.TheVariants.{Cut, Floor, Ceil, Even}
use Rattle.floats.specs.Whole.{rounded, count}
use Rattle.floats.specs.Laws.Rounding.{above_mono, lt_or_ge}
use Rattle.floats.specs.Laws.Ranges.{le_sizes}
use Rattle.floats.specs.Laws.Values.{Sized, mul_value, div_value, add_value, lt_value, le_not_lt}
use Rattle.floats.specs.Laws.Wholes.{count_value, count_ge, count_le}

-- x is at most y, as fractions
abbrev pub Below : Float → Float → Type 0
Below x y = num x * den y ≤ num y * den x

-- ---- the operations, each rounded

module _ (f : Format) (a c b d : ℕ) (C : 0 < c) (D : 0 < d) (h : a * d ≤ b * c) where
  round_below : (x y : Float) → x ≡ round f false a c → y ≡ round f false b d → Sized x → Sized y → Below x y
  round_below x y p q v w =
      le_sizes x y v w (subst (λ (z : Float). T (le z y)) (sym p) (subst (λ (z : Float). T (le (round f false a c) z)) (sym q) (round_mono f a c b d C D h)))

module _ (f : Format) (x y z : Float) (v : Sized x) (w : Sized y) (u : Sized z) (h : Below x y) where
  pub mul_below : Sized (mul f x z) → Sized (mul f y z) → Below (mul f x z) (mul f y z)
  mul_below s t =
      round_below f (num x * num z) (den x * den z) (num y * num z) (den y * den z) (mul-pos (den_pos x) (den_pos z)) (mul-pos (den_pos y) (den_pos z))
      (go (num x) (num z) (den y) (den z) (num y) (den x) h) (mul f x z) (mul f y z)
      (mul_value f x z false false (num x) (den x) (num z) (den z) (den_pos x) (den_pos z) v u)
      (mul_value f y z false false (num y) (den y) (num z) (den z) (den_pos y) (den_pos z) w u) s t
    where
      go : (a b c d e g : ℕ) → a * c ≤ e * g → a * b * (c * d) ≤ e * b * (g * d)
      go a b c d e g k = omega (arith, mul-le-mul_right (b * d) k)

  pub div_below : 0 < num z → Sized (div f x z) → Sized (div f y z) → Below (div f x z) (div f y z)
  div_below Z s t =
      round_below f (num x * den z) (num z * den x) (num y * den z) (num z * den y) (mul-pos Z (den_pos x)) (mul-pos Z (den_pos y))
      (go (num x) (den z) (num z) (den y) (num y) (den x) h) (div f x z) (div f y z)
      (div_value f x z false false (num x) (den x) (num z) (den z) (den_pos x) (den_pos z) Z v u)
      (div_value f y z false false (num y) (den y) (num z) (den z) (den_pos y) (den_pos z) Z w u) s t
    where
      go : (a b c d e g : ℕ) → a * d ≤ e * g → a * b * (c * d) ≤ e * b * (c * g)
      go a b c d e g k = omega (arith, mul-le-mul_right (b * c) k)

  pub add_below : Sized (add f z x) → Sized (add f z y) → Below (add f z x) (add f z y)
  add_below s t =
      round_below f (num z * den x + num x * den z) (den z * den x) (num z * den y + num y * den z) (den z * den y) (mul-pos (den_pos z) (den_pos x)) (mul-pos (den_pos z) (den_pos y))
      (go (num z) (den z) (num x) (den x) (num y) (den y) h) (add f z x) (add f z y)
      (add_value f z x (num z) (den z) (num x) (den x) (den_pos z) (den_pos x) u v)
      (add_value f z y (num z) (den z) (num y) (den y) (den_pos z) (den_pos y) u w) s t
    where
      go : (n d a b c e : ℕ) → a * e ≤ c * b → (n * b + a * d) * (d * e) ≤ (n * e + c * d) * (d * b)
      go n d a b c e k = omega (arith, mul-le-mul_right (d * d) k)

-- ---- counts

rounded_mono : (w : Way) (a b c d : ℕ) → 0 < b → 0 < d → a * d ≤ c * b → rounded w false a b ≤ rounded w false c d
unfolding rounded
rounded_mono Cut a b c d B D h = div_mono a b c d B D h
rounded_mono Floor a b c d B D h = div_mono a b c d B D h
rounded_mono Ceil a b c d B D h = above_mono a b c d B D h
rounded_mono Even a b c d B D h = closest_mono a b c d B D h

pub count_mono : (w : Way) (x y : Float) → Sized x → Sized y → Below x y → count w x ≤ count w y
count_mono w x y v u h =
    subst (λ (n : ℕ). n ≤ count w y) (sym (count_value w x (num x) (den x) (den_pos x) v))
    (subst (λ (n : ℕ). min (rounded w false (num x) (den x)) (2 ^ 31 - 1) ≤ n) (sym (count_value w y (num y) (den y) (den_pos y) u))
    (go _ _ (rounded_mono w (num x) (den x) (num y) (den y) (den_pos x) (den_pos y) h)))
  where
    go : (i j : ℕ) → i ≤ j → min i 2147483647 ≤ min j 2147483647
    go i j k = omega arith

-- a whole number above the count of x is above x, and one below it is below x
module _ (w : Way) (x y : Float) (n : ℕ) (v : Sized x) (u : HasValue y false n 1) where
  no : (a b : ℕ) → a < b → b ≤ a → ⊥
  no a b h k = omega arith

  le_of : num x * 1 ≤ n * den x → T (le x y)
  le_of h = subst T (sym (le_not_lt x y (num x) (den x) n 1 v u ∙ ap not (lt_value y x n 1 (num x) (den x) (lit< tt) (den_pos x) u v ∙ le-ltb _ _ h))) tt

  ge_of : n * den x ≤ num x * 1 → T (le y x)
  ge_of h = subst T (sym (le_not_lt y x n 1 (num x) (den x) u v ∙ ap not (lt_value x y (num x) (den x) n 1 (den_pos x) (lit< tt) v u ∙ le-ltb _ _ h))) tt

  pub under_whole : n < 2 ^ 31 → count w x < n → T (le x y)
  under_whole small h = elim (lt_or_ge (n * den x) (num x)) [
    | inl l ↦ absurd (no (count w x) n h (count_ge w x (num x) (den x) n (den_pos x) v small (le_of_lt l)))
    | inr g ↦ le_of (le_trans (le_of_eq (mul-one (num x))) g)
  ]

  pub over_whole : n < count w x → T (le y x)
  over_whole h = elim (lt_or_ge (num x) (n * den x)) [
    | inl l ↦ absurd (no n (count w x) h (count_le w x (num x) (den x) n (den_pos x) v (le_of_lt l)))
    | inr g ↦ ge_of (le_trans g (le_of_eq (sym (mul-one (num x)))))
  ]
