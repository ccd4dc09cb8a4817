-- What a value in a range is: between the ends, and where the range starts at 0 or above, finite, not negative, and between them as fractions; and the
-- number of a field in its range. Assumes nothing.
use Rattle.std.specs.Prelude.{◌≡◌, ℕ, zero, suc, ◌*◌, ◌%◌, ◌<◌, ◌≤◌, Bool, true, false, cond, not, ◌&&◌, T, pos, ◌==◌, from_bits, nat_lt, Float}
use Rattle.std.proofs.Math.Path.{refl, subst}
use Rattle.std.proofs.Common.{sym, ap, ◌∙◌, mul-pos, zero-lt-suc, arith, eqb→eq, nltb→le}
use Rattle.std.specs.Float.{nan, inf, fin, Format, float_is_finite}
use Rattle.std.specs.Float.Ieee.{top, ones, hid, up, down, lt, eq, le, nan_bits}
use Rattle.std.specs.Float.Ieee.Bits.{nan_bits_is, nan_bits_above, is_true}
use borrow.Author.Tests.{lt-ltb, le-ltb}
use Rattle.std.specs.Float.Ieee.Fits.{and_l, and_r, up_pos, down_pos}
use Rattle.std.specs.Float.Ieee.Positive.{num, den, den_pos}
use Rattle.std.specs.Float.Ieee.Scale.{finite}
use Rattle.floats.specs.Range.{negative_zero, in_range, within, float}
use Rattle.floats.specs.Laws.Patterns.{finite_no_nan}
use Rattle.floats.specs.Laws.Values.{Sized, lt_value, le_not_lt}

-- two values that are not negative, in order
pub le_sizes : (x y : Float) → Sized x → Sized y → T (le x y) → num x * den y ≤ num y * den x
le_sizes x y v w h =
    let e : le x y ≡ not (nat_lt (num y * den x) (num x * den y)) = le_not_lt x y (num x) (den x) (num y) (den y) v w ∙ ap not (lt_value y x (num y) (den y) (num x) (den x) (den_pos y) (den_pos x) w v) in
    nltb→le (num y * den x) (num x * den y) (subst T e h)

clear : (lo x : Float) → Sized lo → T (finite x) → T (not (negative_zero x)) → T (le lo x) → Sized x
unfolding le lt eq
clear lo nan v f n h = absurd f
clear lo (inf s) v f n h = absurd f
clear nan (fin s m e) v f n h = absurd v
clear (inf t) (fin s m e) v f n h = absurd v
clear (fin true k d) (fin s m e) v f n h = absurd (subst T v.0 tt)
clear (fin false k d) (fin false m e) v f n h = (refl, refl)
clear (fin false k d) (fin true zero e) v f n h = absurd n
clear (fin false k d) (fin true (suc m) e) v f n h =
    let A = k * up d * down e in
    let B = suc m * up e * down d in
    absurd (no A B (eqb→eq A B (and_l (A == B) (A == 0) h)) (eqb→eq A 0 (and_r (A == B) (A == 0) h)) (mul-pos (mul-pos (zero-lt-suc m) (up_pos e)) (down_pos d)))
  where
    no : (a b : ℕ) → a ≡ b → a ≡ 0 → 0 < b → ⊥
    no a b p q r = omega arith

module _ (lo hi x : Float) (v : Sized lo) (w : Sized hi) (h : T (in_range lo hi x)) where
  tests : T (finite x && not (negative_zero x) && le lo x) × T (le x hi)
  unfolding in_range
  tests = (and_l (finite x && not (negative_zero x) && le lo x) (le x hi) h, and_r (finite x && not (negative_zero x) && le lo x) (le x hi) h)

  from_low : T (le lo x)
  from_low = and_r (finite x && not (negative_zero x)) (le lo x) tests.0

  pub in_sized : Sized x
  in_sized =
      let t = and_l (finite x && not (negative_zero x)) (le lo x) tests.0 in
      clear lo x v (and_l (finite x) (not (negative_zero x)) t) (and_r (finite x) (not (negative_zero x)) t) from_low

  pub in_low : num lo * den x ≤ num x * den lo
  in_low = le_sizes lo x v in_sized from_low

  pub in_high : num x * den hi ≤ num hi * den x
  in_high = le_sizes x hi in_sized w tests.1

-- so the pattern of a field that is in its range is no NaN's
pub in_no_nan : (f : Format) (lo hi : Float) (b : ℕ) → T (in_range lo hi (from_bits f b)) → T (not (nan_bits f b))
unfolding in_range
in_no_nan f lo hi b h =
    let x = from_bits f b in
    let t = and_l (finite x) (not (negative_zero x)) (and_l (finite x && not (negative_zero x)) (le lo x) (and_l (finite x && not (negative_zero x) && le lo x) (le x hi) h)) in
    subst (λ (z : Bool). T (not z)) (sym (nan_bits_is f b)) (finite_no_nan x (is_true (finite x) t))

-- ---- the number of a pattern

module _ (f : Format) (b : ℕ) where
  nan_no : b % top f ≤ ones f * hid f → nan_bits f b ≡ false
  nan_no h = nan_bits_above f b ∙ le-ltb _ _ h

  pub no_nan : b % top f ≤ ones f * hid f → T (not (nan_bits f b))
  no_nan h = rw (nan_no h) tt

  pub float_nan : ones f * hid f < b % top f → fin false 0 (pos 0) ≡ float f b
  unfolding float
  float_nan h = rw (nan_bits_above f b ∙ lt-ltb _ _ h)

  pub float_is : b % top f ≤ ones f * hid f → from_bits f b ≡ float f b
  unfolding float
  float_is h = rw (nan_no h)

  -- of a field in its range it is that of the pattern
  pub float_within : (lo hi : Float) → within f lo hi b ≡ true → float f b ≡ from_bits f b
  unfolding float
  float_within lo hi h = go (nan_bits f b) (in_no_nan f lo hi b (subst T (sym h) tt))
    where
      go : (n : Bool) → T (not n) → cond n (fin false 0 (pos 0)) (from_bits f b) ≡ from_bits f b
      go true t = absurd t
      go false t = refl

  -- and it is in the range too
  pub within_float : (lo hi : Float) → within f lo hi b ≡ true → (le lo (float f b) ≡ true) × (le (float f b) hi ≡ true)
  unfolding in_range
  within_float lo hi h =
      let x = from_bits f b in
      let t = subst T (sym h) tt in
      let a = and_l (finite x && not (negative_zero x) && le lo x) (le x hi) t in
      rw (float_within lo hi h) (is_true (le lo x) (and_r (finite x && not (negative_zero x)) (le lo x) a), is_true (le x hi) (and_r (finite x && not (negative_zero x) && le lo x) (le x hi) t))

-- ---- std's word

-- `x.is_finite()`
pub finite_is : (x : Float) → float_is_finite x ≡ finite x
unfolding float_is_finite
finite_is nan = refl
finite_is (inf s) = refl
finite_is (fin s m e) = refl
