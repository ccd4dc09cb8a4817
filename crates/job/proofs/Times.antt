-- Times in range: what a note's start and duration come to in ticks, and when the chart reader takes the note. Assumes nothing.
use Rattle.std.specs.Prelude.{if◌then◌else◌}
use mathlib.Core.Path.{◌≡◌, refl, sym, ap, ◌∙◌, subst}
use Prim.Native.Nat.{ℕ, zero, suc, ◌+◌, ◌-◌, ◌*◌, ◌^◌, ◌≤◌, ◌<◌}
use native.Mathlib.Nat.{le_trans, le_of_eq, mul-one, mul-pos, mul-le-mul_right, le_of_mul-le-mul_right, zero-mul, add-mul}
use native.Mathlib.Omega.{arith}
use mathlib.Core.Bool.{Bool, true, false}
use lib.Dec.{T, eqb, lit≤, lit<}
use lib.Pow.{pow_pos}
use lib.IntN.{pos}
use lib.Ieee.{Float, binary64, fits, round, to_bits, le}
use lib.Ieee as Ieee
use lib.Ieee.Fits.{round-fits, of_int-fits, sub-fits}
use lib.Ieee.Exact.{HasValue}
use lib.Ieee.Back.{round_whole}
use lib.Ieee.Positive.{num, den, den_pos, value→cross}
use borrow.Author.Tests.{lt-ltb, le-leb, eqb-false}
use Rattle.model.specs.Limits.{latest_start, latest_end}
use Rattle.floats.specs.Laws.Values.{Sized, UpTo, sized, rest_sized, end_at_most}
use Rattle.floats.specs.Laws.Ranges.{le_sizes}
use Rattle.floats.specs.Laws.Integers.{int_value, sub_ints}
use Rattle.floats.specs.Laws.Times.{ticks_value}
use Rattle.floats.specs.Range.{in_range}
use Rattle.floats.specs.Ticks.{ticks}
use Rattle.chart.specs.Time.{is_time, latest}
use Rattle.chart.specs.Chart.{ok_note, lasts}
use Rattle.chart.specs.Laws.Times.{value_time, time_to_bits}
use Rattle.chart.specs.Laws.Reader.{first_rank, note_decided}
use Rattle.mania.specs.declared.Note.{Note}
use Rattle.model.specs.declared.Object.{Object}
use Rattle.mania.specs.Steps.{double, double#}
use Rattle.mania.specs.Made.{circle}
use Rattle.mania.specs.Chart.{pattern_of}
use Rattle.mania.specs.PathObject
use Rattle.mania.specs.EndTimeObject

-- an f64 from 0 to n
pub record Span (n : ℕ) (x : Float) : Type 0 where
  pub exact : T (fits binary64 x)
  pub range : UpTo n x

sized_time : (x : Float) → Sized x → is_time x ≡ true
sized_time x v = value_time x (num x) (den x) (den_pos x) v

-- ---- ticks of fractions

ticks_cross : (x : Float) → T (fits binary64 x) → Sized x → num x * 2 ^ 1074 ≡ ticks x * den x
ticks_cross x f v = value→cross x (ticks x) (2 ^ 1074) (ticks_value x f v)

bound : (N D t k n : ℕ) → 0 < D → N * k ≡ t * D → N ≤ n * D → t ≤ n * k
bound N D t k n d e h =
    let m : t * D ≤ n * k * D = omega (arith, mul-le-mul_right k h) in
    le_of_mul-le-mul_right m d

bound_two : (N D t M E u k n : ℕ) → 0 < D → 0 < E → N * k ≡ t * D → M * k ≡ u * E → N * E + M * D ≤ n * (D * E) → t + u ≤ n * k
bound_two N D t M E u k n d e p q h =
    let m : (t + u) * (D * E) ≤ n * k * (D * E) = omega (arith, mul-le-mul_right k h, ap (λ (z : ℕ). z * E) p, ap (λ (z : ℕ). z * D) q) in
    le_of_mul-le-mul_right m (mul-pos d e)

some_ticks : (N D t k : ℕ) → 0 < N → 0 < k → N * k ≡ t * D → 0 < t
some_ticks N D zero k n h e = let z : 0 < N * k = mul-pos n h in omega (arith, zero-mul D)
some_ticks N D (suc t) k n h e = omega arith

pub ticks_at_most : (n : ℕ) (x : Float) → Span n x → ticks x ≤ n * 2 ^ 1074
ticks_at_most n x h = bound (num x) (den x) (ticks x) (2 ^ 1074) n (den_pos x) (ticks_cross x h.exact h.range.size) h.range.high

ticks_some : (x : Float) → T (fits binary64 x) → Sized x → 0 < num x → 0 < ticks x
ticks_some x f v h = some_ticks (num x) (den x) (ticks x) (2 ^ 1074) h (pow_pos 1074) (ticks_cross x f v)

-- ---- the reader's rule of one note

-- the chart reader takes the note, wherever its start is in order
pub record Okay (columns : ℕ) (n : Note) : Type 0 where
  pub taken : (i : ℕ) → ok_note columns 0 (pattern_of i n) ≡ true
  pub exact : T (fits binary64 n.start)
  pub lasts_exact : T (fits binary64 n.duration)

module _ (columns c : ℕ) (on : c < columns) (x : Float) (f : T (fits binary64 x)) (v : Sized x) where
  note_okay : (hold : Bool) (d : Float) → T (fits binary64 d) → is_time d ≡ true → lasts hold (to_bits binary64 d) ≡ true → ticks x + ticks d ≤ latest
      → Okay columns (record { column = c; hold = hold; start = x; duration = d })
  unfolding pattern_of
  note_okay hold d g w l h =
      record {
        taken = λ i.
            sym (note_decided columns 0 _ (lt-ltb c columns on) (ap is_time (time_to_bits x f) ∙ sized_time x v) (ap is_time (time_to_bits d g) ∙ w) (first_rank _) l)
            ∙ rw (time_to_bits x f, time_to_bits d g) (le-leb (ticks x + ticks d) latest h);
        exact = f;
        lasts_exact = g;
      }

  circle_okay : ticks x ≤ latest → Okay columns (circle c x)
  unfolding circle lasts round Ieee.size Ieee.span Ieee.climb Ieee.units Ieee.odd to_bits is_time in_range Ieee.le ticks
  circle_okay h = note_okay false (double 0 1) (round-fits binary64 false 0 1) refl refl (sum (ticks x) latest h)
    where
      sum : (a k : ℕ) → a ≤ k → a + 0 ≤ k
      sum a k h = omega arith

-- two ways of an `if`, the condition kept
either : (columns : ℕ) (b : Bool) (n m : Note) → (b ≡ true → Okay columns n) → (b ≡ false → Okay columns m) → Okay columns (if b then n else m)
either columns true n m h k = h refl
either columns false n m h k = k refl

early : (t : ℕ) → t ≤ latest_start * 2 ^ 1074 → t ≤ latest
early t h = le_trans h (lit≤ tt)

-- ---- a circle

pub circle_notes : (columns : ℕ) (x : Float) → Span latest_start x → (c : ℕ) → c < columns → Okay columns (circle c x)
circle_notes columns x h c on = circle_okay columns c on x h.exact h.range.size (early (ticks x) (ticks_at_most latest_start x h))

-- ---- a note that ends with a spinner or a hold

hundred_value : HasValue (double 100 1) false 100 1
hundred_value = round_whole binary64 false 100 (lit≤ tt)

some_part : (N D M E : ℕ) → N * 1 ≡ 100 * D → 0 < D → 0 < E → N * E ≤ M * D → 0 < M
some_part N D zero E e d h l =
    let z : 0 < D * E = mul-pos d h in
    let w : N * E ≡ 100 * (D * E) = omega (arith, ap (λ (z : ℕ). z * E) e) in
    omega (arith, zero-mul D)
some_part N D (suc M) E e d h l = omega arith

module _ (columns : ℕ) (o : Object) (duration : Float) (h : Span latest_start o.start) (k : Span latest_start duration) where
  abbrev r : Float
  r = EndTimeObject.lasting o duration

  r_sized : Sized r
  unfolding EndTimeObject.lasting
  r_sized = rest_sized binary64 o.start duration h.exact h.range.size k.range.size latest_start latest_start h.range.high k.range.high (lit< tt)

  r_fits : T (fits binary64 r)
  unfolding EndTimeObject.lasting
  r_fits = sub-fits binary64 _ _

  r_ends : ticks o.start + ticks r ≤ latest
  unfolding EndTimeObject.lasting
  r_ends =
      bound_two (num o.start) (den o.start) (ticks o.start) (num r) (den r) (ticks r) (2 ^ 1074) latest_end (den_pos o.start) (den_pos r)
      (ticks_cross o.start h.exact h.range.size) (ticks_cross r r_fits r_sized)
      (end_at_most binary64 o.start duration h.exact h.range.size k.range.size latest_start latest_start h.range.high k.range.high (lit< tt))

  r_lasts : le (double 100 1) r ≡ true → lasts true (to_bits binary64 r) ≡ true
  unfolding lasts
  r_lasts e =
      let H = double 100 1 in
      rw (time_to_bits r r_fits)
      (lt-ltb 0 (ticks r) (ticks_some r r_fits r_sized
      (some_part (num H) (den H) (num r) (den r) (value→cross H 100 1 hundred_value) (den_pos H) (den_pos r)
      (le_sizes H r (sized H 100 1 hundred_value) r_sized (subst T (sym e) tt)))))

  pub end_notes : (c : ℕ) → c < columns → Okay columns (EndTimeObject.end_note o r c)
  unfolding EndTimeObject.end_note
  end_notes c on =
      either columns (le (double 100 1) r) _ _
      (λ e. note_okay columns c on o.start h.exact h.range.size true r r_fits (sized_time r r_sized) (r_lasts e) r_ends)
      (λ e. circle_notes columns o.start h c on)

-- ---- a slider's bar

int_span : (n : ℕ) → n ≤ 2 ^ 53 → Span n (double# n)
int_span n h =
    let x = double# n in
    let v = int_value binary64 n h in
    record { exact = of_int-fits binary64 (pos n); range = record { size = sized x n 1 v; high = le_of_eq (sym (mul-one (num x)) ∙ value→cross x n 1 v) } }

int_some : (n : ℕ) → 0 < n → n ≤ 2 ^ 53 → 0 < num (double# n)
int_some n p h =
    let x = double# n in
    go (num x) (den x) (value→cross x n 1 (int_value binary64 n h)) (den_pos x)
  where
    go : (N D : ℕ) → N * 1 ≡ n * D → 0 < D → 0 < N
    go zero D e d = let z : 0 < n * D = mul-pos p d in omega arith
    go (suc N) D e d = omega arith

module _ (columns c t e : ℕ) (on : c < columns) (l : t ≤ e) (m : e ≤ latest_end) where
  small : (n : ℕ) → n ≤ latest_end → n ≤ 2 ^ 53
  small n h = le_trans h (lit≤ tt)

  t_le : t ≤ latest_end
  t_le = le_trans l m

  d_le : e - t ≤ latest_end
  d_le = omega arith

  at : Span t (double# t)
  at = int_span t (small t t_le)

  for : Span (e - t) (double# (e - t))
  for = int_span (e - t) (small (e - t) d_le)

  sum : (a b k : ℕ) → a ≤ t * k → b ≤ (e - t) * k → a + b ≤ latest_end * k
  sum a b k p q =
      let z : t + (e - t) ≡ e = omega arith in
      let w : t * k + (e - t) * k ≡ e * k = sym (add-mul t (e - t) k) ∙ ap (λ (i : ℕ). i * k) z in
      omega (arith, mul-le-mul_right k m)

  held : (t ≡ e → ⊥) → Okay columns (record { column = c; hold = true; start = double# t; duration = Ieee.sub binary64 (double# e) (double# t) })
  unfolding lasts
  held x =
      let p : 0 < e - t = omega arith in
      rw (sub_ints binary64 e t (small e m) (small t t_le) l)
      (note_okay columns c on (double# t) at.exact at.range.size true (double# (e - t)) for.exact (sized_time (double# (e - t)) for.range.size)
      (rw (time_to_bits (double# (e - t)) for.exact) (lt-ltb 0 (ticks (double# (e - t))) (ticks_some (double# (e - t)) for.exact for.range.size (int_some (e - t) p (small (e - t) d_le)))))
      (sum _ _ (2 ^ 1074) (ticks_at_most t (double# t) at) (ticks_at_most (e - t) (double# (e - t)) for)))

  pub bar_notes : Okay columns (PathObject.note_of (record { column = c; start = t; end = e }))
  unfolding PathObject.note_of
  bar_notes =
      either columns (eqb t e) _ _
      (λ q. circle_okay columns c on (double# t) at.exact at.range.size (le_trans (ticks_at_most t (double# t) at) (mul-le-mul_right (2 ^ 1074) t_le)))
      (λ q. held (eqb-false t e q))
