-- The instant of a bit pattern, and what covers, distances and tests on patterns say of it.
-- Assumes nothing.
use Rattle.std.specs.Prelude.{◌≡◌, Bool, cond, not, ◌&&◌, ◌||◌, T, ℤ, negsuc, neg_ℤ, nat_abs, Float, Some, None}
use Rattle.std.proofs.Math.Path.{refl, sym}
use Rattle.std.proofs.Common.{ap, ◌∙◌, mul-div_cancel, pow_pos}
use Rattle.std.proofs.Math.Bool.{true, false, and-false}
use Rattle.std.proofs.Math.Logic.{⊎_elim}
use Prim.Native.Nat.{ℕ, zero, suc, ◌+◌, ◌-◌, ◌*◌, ◌%◌, ◌^◌, ◌≤◌, ◌<◌}
use Rattle.std.proofs.Math.Nat.{mul-pos, zero-mul}
use native.Mathlib.Omega.{arith}
use Rattle.std.proofs.Math.Dec.{leb, ltb, eqb}
use Rattle.std.proofs.Math.IntN.{pos, sub_ℕ}
use Rattle.std.specs.Int.Signed.{lt_z, le_z}
use Rattle.std.specs.Float.Ieee.{nan, binary64, up, down, lt, le, eq, fits, of_bits, to_bits}
use Rattle.std.specs.Float.{inf, fin}
use Rattle.std.specs.Float.Ieee.Exact.{HasValue}
use Rattle.std.specs.Float.Ieee.Fits.{down_pos}
use Rattle.std.specs.Float.Ieee.Scale.{finite}
use borrow.Author.Tests.{lt-ltb, le-ltb, le-leb, lt-leb, ltb-true, leb-true, leb-false, ne_eqb}
use Rattle.floats.specs.Ticks.{ticks}
use Rattle.floats.specs.Laws.Patterns.{value, special_bits, small_value, size_of, size_lt, le_bits}
use Rattle.chart.specs.Time.{time}
use Rattle.chart.specs.Tests.{never}
use Rattle.floats.specs.Format.{infinity}
use Rattle.chart.specs.Laws.Times.{ticks_mono, ticks_size, ticks_zero, ticks_leb, le_or_lt, time_to_bits}
use Rattle.exact_times.specs.Instants.{instant, covers_at, inside_at, distance, Tells, FirstAt, FirstAfter}
use Rattle.exact_times.specs.Laws.Orders.{same_ltb, not_ltb}

-- ---- the instant of a finite f64

signed_ticks : (x : Float) (s : Bool) (a : ℕ) → HasValue x s a (2 ^ 1074) → instant x ≡ cond s (neg_ℤ (pos a)) (pos a)
unfolding instant ticks
signed_ticks nan s a h = absurd h
signed_ticks (inf t) s a h = absurd h
signed_ticks (fin t m e) s a h = rw (h.0, h.1, mul-div_cancel a (down_pos e))

pub time_instant : (b : ℕ) → b < infinity → instant (time b) ≡ pos (ticks (time b))
time_instant b h = signed_ticks (time b) false (size_of binary64 b) (small_value binary64 b h) ∙ ap pos (sym (ticks_size b h))

-- a finite pattern, without its sign, is below infinity
finite_below : (b : ℕ) → finite (time b) ≡ true → b % 2 ^ 63 < infinity
finite_below b h = ⊎_elim (λ (l : infinity ≤ b % 2 ^ 63). absurd (never h (special_bits binary64 b l))) (λ l. l) (le_or_lt infinity (b % 2 ^ 63))

pub plus_tells : (b : ℕ) → finite (time b) ≡ true → b < 2 ^ 63 → Tells (time b) (Some b)
unfolding Tells
plus_tells b h l = let small : b < infinity = omega (arith, finite_below b h) in (small, time_instant b small)

pub zero_tells : Tells (time (2 ^ 63)) (Some 0)
unfolding Tells of_bits
zero_tells = (omega arith, signed_ticks (time (2 ^ 63)) true 0 (value binary64 (2 ^ 63) tt) ∙ ap pos (sym ticks_zero))

negative : (a : ℕ) → 0 < a → lt_z (neg_ℤ (pos a)) (pos 0) ≡ true
negative zero h = absurd (omega arith)
negative (suc a) h = refl

pub minus_tells : (b : ℕ) → finite (time b) ≡ true → 2 ^ 63 < b → b < 2 ^ 64 → Tells (time b) None
unfolding Tells
minus_tells b h l k =
    let digits : b % 2 ^ 52 ≡ b % 2 ^ 63 % 2 ^ 52 = omega arith in
    let some : 0 < size_of binary64 (b % 2 ^ 63) = size_lt binary64 0 (b % 2 ^ 63) (omega arith) in
    let v = rw (le-leb (2 ^ 63) b (omega arith), digits) at (value binary64 b (rw h tt)) in
    rw (signed_ticks (time b) true (size_of binary64 (b % 2 ^ 63)) v) (negative (size_of binary64 (b % 2 ^ 63)) some)

-- ---- the order of patterns is that of ticks

pub ticks_le : (b a : ℕ) → b ≤ a → a < infinity → ticks (time b) ≤ ticks (time a)
ticks_le b a h k = leb-true (ticks (time b)) (ticks (time a)) (ticks_leb b a (omega arith) k ∙ le-leb b a h)

pub ticks_ltb : (a b : ℕ) → a < infinity → b < infinity → ltb a b ≡ ltb (ticks (time a)) (ticks (time b))
ticks_ltb a b h k = sym (same_ltb a b (ticks (time a)) (ticks (time b)) (λ (l : a < b). ticks_mono a b l k) (λ (l : b ≤ a). ticks_le b a l h))

-- ---- a finite f64 and a time are compared as their instants

nothing_times : (m c d : ℕ) → 0 < c → m * c ≡ 0 * d → m ≡ 0
nothing_times zero c d h e = refl
nothing_times (suc m) c d h e = let some : 0 < suc m * c = mul-pos (omega arith) h in absurd (omega arith)

some_times : (m c a d : ℕ) → 0 < d → m * c ≡ suc a * d → 0 < m
some_times zero c a d h e = let some : 0 < suc a * d = mul-pos (omega arith) h in absurd (omega arith)
some_times (suc m) c a d h e = omega arith

module _ (c : ℕ) (C : 0 < c) where
  -- a number that is negative, or negative zero, is at most a time
  minus_le : (x y : Float) (a b : ℕ) → HasValue x true a c → HasValue y false b c → le x y ≡ le_z (neg_ℤ (pos a)) (pos b)
  unfolding le lt eq
  minus_le nan y a b h k = absurd h
  minus_le (inf s) y a b h k = absurd h
  minus_le (fin s m e) nan a b h k = absurd k
  minus_le (fin s m e) (inf u) a b h k = absurd k
  minus_le (fin s m e) (fin u n d) a b h k = rw (h.0, k.0) (always (m * up e * down d) (n * up d * down e) ∙ sign a)
    where
      always : (p q : ℕ) → ltb 0 (p + q) || (eqb p q && (false || eqb p 0)) ≡ true
      always zero zero = refl
      always zero (suc q) = rw (lt-ltb 0 (0 + suc q) (omega arith))
      always (suc p) q = rw (lt-ltb 0 (suc p + q) (omega arith))

      sign : (a : ℕ) → true ≡ le_z (neg_ℤ (pos a)) (pos b)
      sign zero = sym (le-leb 0 b (omega arith))
      sign (suc a) = refl

  -- a time is at most such a number only where both are 0
  le_minus : (x y : Float) (a b : ℕ) → HasValue x true a c → HasValue y false b c → le y x ≡ le_z (pos b) (neg_ℤ (pos a))
  unfolding le lt eq
  le_minus nan y a b h k = absurd h
  le_minus (inf s) y a b h k = absurd h
  le_minus (fin s m e) nan a b h k = absurd k
  le_minus (fin s m e) (inf u) a b h k = absurd k
  le_minus (fin s m e) (fin u n d) zero zero h k =
      rw (h.0, k.0, nothing_times (m * up e) c (down e) C h.1, nothing_times (n * up d) c (down d) C k.1, zero-mul (down e), zero-mul (down d))
  le_minus (fin s m e) (fin u n d) zero (suc b) h k =
      let some : 0 < n * up d * down e = mul-pos (some_times (n * up d) c b (down d) (down_pos d) k.1) (down_pos e) in
      rw (h.0, k.0, nothing_times (m * up e) c (down e) C h.1, zero-mul (down d), ne_eqb (n * up d * down e) 0 (λ q. omega arith)) (sym (lt-leb (suc b) 0 (omega arith)))
  le_minus (fin s m e) (fin u n d) (suc a) b h k =
      let some : 0 < m * up e * down d = mul-pos (some_times (m * up e) c a (down e) (down_pos e) h.1) (down_pos d) in
      rw (h.0, k.0) (never_both (n * up d * down e) (m * up e * down d) some)
    where
      never_both : (p q : ℕ) → 0 < q → eqb p q && (false || eqb p 0) ≡ false
      never_both zero q l = rw (ne_eqb 0 q (λ z. omega arith))
      never_both (suc p) q l = rw (ne_eqb (suc p) 0 (λ z. omega arith)) (and-false (eqb (suc p) q))

module _ (b s : ℕ) (ok : finite (time b) ≡ true) (l : s < infinity) where
  minus : 2 ^ 63 ≤ b → (a : ℕ) × ((HasValue (time b) true a (2 ^ 1074)) × (instant (time b) ≡ neg_ℤ (pos a)))
  minus h = let v = rw (le-leb (2 ^ 63) b h) at (value binary64 b (rw ok tt)) in (_, (v, signed_ticks (time b) true _ v))

  time_at_most : le (time b) (time s) ≡ le_z (instant (time b)) (pos (ticks (time s)))
  unfolding Tells
  time_at_most =
      ⊎_elim
      (λ (h : 2 ^ 63 ≤ b).
      let m = minus h in
      rw (m.1.1, ticks_size s l) (minus_le (2 ^ 1074) (pow_pos 1074) (time b) (time s) m.0 (size_of binary64 s) m.1.0 (small_value binary64 s l)))
      (λ (h : b < 2 ^ 63).
      let small : (b < infinity) × (instant (time b) ≡ pos (ticks (time b))) = plus_tells b ok h in
      rw small.1 (le_bits binary64 b s small.0 l ∙ not_ltb s b ∙ sym (ticks_leb b s small.0 l)))
      (le_or_lt (2 ^ 63) b)

  time_at_least : le (time s) (time b) ≡ le_z (pos (ticks (time s))) (instant (time b))
  unfolding Tells
  time_at_least =
      ⊎_elim
      (λ (h : 2 ^ 63 ≤ b).
      let m = minus h in
      rw (m.1.1, ticks_size s l) (le_minus (2 ^ 1074) (pow_pos 1074) (time b) (time s) m.0 (size_of binary64 s) m.1.0 (small_value binary64 s l)))
      (λ (h : b < 2 ^ 63).
      let small : (b < infinity) × (instant (time b) ≡ pos (ticks (time b))) = plus_tells b ok h in
      rw small.1 (le_bits binary64 s b l small.0 ∙ not_ltb b s ∙ sym (ticks_leb s b l small.0)))
      (le_or_lt (2 ^ 63) b)

module _ (x : Float) (fit : T (fits binary64 x)) (ok : finite x ≡ true) (s : ℕ) (l : s < infinity) where
  pub le_instant : le x (time s) ≡ le_z (instant x) (pos (ticks (time s)))
  le_instant = rw (time_to_bits x fit) at (time_at_most (to_bits binary64 x) s (rw (time_to_bits x fit) ok) l)

  pub instant_le : le (time s) x ≡ le_z (pos (ticks (time s))) (instant x)
  instant_le = rw (time_to_bits x fit) at (time_at_least (to_bits binary64 x) s (rw (time_to_bits x fit) ok) l)

-- ---- the first pattern at or after an instant, and the first one after it

module _ (t : Float) where
  pub at_first : (b : ℕ) → Tells t (Some b) → FirstAt t b
  unfolding Tells FirstAt
  at_first b h s l = rw h.1 (sym (ticks_leb b s h.0 l))

  pub at_after : (b : ℕ) → Tells t (Some b) → FirstAfter t (b + 1)
  unfolding Tells FirstAfter
  at_after b h s l = rw h.1 (same_test ∙ sym (ticks_leb s b l h.0))
    where
      same_test : ltb s (b + 1) ≡ leb s b
      same_test = ⊎_elim (λ (k : s ≤ b). lt-ltb s (b + 1) (omega arith) ∙ sym (le-leb s b k)) (λ (k : b < s). le-ltb s (b + 1) (omega arith) ∙ sym (lt-leb s b k)) (le_or_lt s b)

  pub before_first : Tells t None → FirstAt t 0
  unfolding Tells FirstAt
  before_first h s l = le-leb 0 s (omega arith) ∙ go (instant t) h
    where
      go : (z : ℤ) → lt_z z (pos 0) ≡ true → true ≡ le_z z (pos (ticks (time s)))
      go (pos n) h = let k : n < 0 = ltb-true n 0 h in absurd (omega arith)
      go (negsuc n) h = refl

  pub before_after : Tells t None → FirstAfter t 0
  unfolding Tells FirstAfter
  before_after h s l = le-ltb s 0 (omega arith) ∙ go (instant t) h
    where
      go : (z : ℤ) → lt_z z (pos 0) ≡ true → false ≡ le_z (pos (ticks (time s))) z
      go (pos n) h = let k : n < 0 = ltb-true n 0 h in absurd (omega arith)
      go (negsuc n) h = refl

-- ---- what covers an instant from 0 on, and what lies before 0

module _ (first last t : ℕ) where
  pub too_early : t < first → false ≡ covers_at first last (pos t)
  unfolding covers_at
  too_early h = rw (lt-leb first t h)

  pub by_the_end : first ≤ t → not (ltb last t) ≡ covers_at first last (pos t)
  unfolding covers_at
  by_the_end h = rw (le-leb first t h) (not_ltb last t)

  pub not_after : t ≤ first → false ≡ inside_at first last (pos t)
  unfolding inside_at
  not_after h = rw (le-ltb first t h)

  pub before_the_end : first < t → ltb t last ≡ inside_at first last (pos t)
  unfolding inside_at
  before_the_end h = rw (lt-ltb first t h)

module _ (first last : ℕ) where
  pub before_covers : (t : ℤ) → lt_z t (pos 0) ≡ true → false ≡ covers_at first last t
  unfolding covers_at
  before_covers (pos n) h = let l : n < 0 = ltb-true n 0 h in absurd (omega arith)
  before_covers (negsuc n) h = refl

  pub before_inside : (t : ℤ) → lt_z t (pos 0) ≡ true → false ≡ inside_at first last t
  unfolding inside_at
  before_inside (pos n) h = let l : n < 0 = ltb-true n 0 h in absurd (omega arith)
  before_inside (negsuc n) h = refl

-- ---- distances

gap : (a t : ℕ) → nat_abs (sub_ℕ a (suc t)) ≡ (a - suc t) + (suc t - a)
gap a t =
    ⊎_elim (λ (h : suc t ≤ a). rw (le-ltb a (suc t) h) (omega arith)) (λ (h : a < suc t). rw (lt-ltb a (suc t) h) (omega arith)) (le_or_lt (suc t) a)

distance_is : (a t : ℕ) → distance a (pos t) ≡ (a - t) + (t - a)
unfolding distance
distance_is a zero = omega arith
distance_is a (suc t) = gap a t

-- whether b is strictly nearer to t than a: where both lie on one side of t, their order says; else their sum beside the double of t
module _ (a b t : ℕ) where
  pub both_after : t < a → t < b → ltb b a ≡ ltb (distance b (pos t)) (distance a (pos t))
  both_after h k = rw (distance_is a t, distance_is b t) (same_ltb (b - t + (t - b)) (a - t + (t - a)) b a (λ l. omega arith) (λ l. omega arith))

  pub both_before : a ≤ t → b ≤ t → ltb a b ≡ ltb (distance b (pos t)) (distance a (pos t))
  both_before h k = rw (distance_is a t, distance_is b t) (same_ltb (b - t + (t - b)) (a - t + (t - a)) a b (λ l. omega arith) (λ l. omega arith))

  pub second_after : a ≤ t → t < b → ltb (a + b) (2 * t) ≡ ltb (distance b (pos t)) (distance a (pos t))
  second_after h k = rw (distance_is a t, distance_is b t) (same_ltb (b - t + (t - b)) (a - t + (t - a)) (a + b) (2 * t) (λ l. omega arith) (λ l. omega arith))

  pub second_before : t < a → b ≤ t → ltb (2 * t) (a + b) ≡ ltb (distance b (pos t)) (distance a (pos t))
  second_before h k = rw (distance_is a t, distance_is b t) (same_ltb (b - t + (t - b)) (a - t + (t - a)) (2 * t) (a + b) (λ l. omega arith) (λ l. omega arith))

pub before_distance : (a b : ℕ) (t : ℤ) → lt_z t (pos 0) ≡ true → ltb b a ≡ ltb (distance b t) (distance a t)
unfolding distance
before_distance a b (pos n) h = let l : n < 0 = ltb-true n 0 h in absurd (omega arith)
before_distance a b (negsuc n) h = sym (same_ltb b a (b + suc n) (a + suc n) (λ l. omega arith) (λ l. omega arith))

-- of two times on one side of an instant
module _ (a b : ℕ) where
  pub farther_after : (t : ℤ) → le_z t (pos a) ≡ true → a ≤ b → distance a t ≤ distance b t
  unfolding distance
  farther_after (pos n) h k = rw (distance_is a n, distance_is b n) (omega (arith, leb-true n a h))
  farther_after (negsuc n) h k = omega arith

  pub farther_before : (t : ℤ) → le_z t (pos b) ≡ false → a ≤ b → distance b t ≤ distance a t
  farther_before (pos n) h k = rw (distance_is a n, distance_is b n) (omega (arith, leb-false n b h))
  farther_before (negsuc n) h k = absurd (never refl h)

  pub strictly_farther : (t : ℤ) → le_z t (pos b) ≡ false → a < b → distance b t < distance a t
  strictly_farther (pos n) h k = rw (distance_is a n, distance_is b n) (omega (arith, leb-false n b h))
  strictly_farther (negsuc n) h k = absurd (never refl h)
