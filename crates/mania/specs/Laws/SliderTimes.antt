-- A slider's times, of facts in document 01's ranges: the end is not before the rounded start, and a larger distance has no earlier end. Assumes nothing.
use Rattle.std.specs.Prelude.{◌≡◌, refl, ℕ, zero, suc, ◌+◌, ◌*◌, ◌^◌, ◌≤◌, ◌<◌, Bool, true, false, cond, ltb, pos, Float, if◌then◌else◌, Option}
use Rattle.std.proofs.Common.{sym, ◌∙◌, le_trans, le_of_eq, mul-one, mul_right_comm, le_of_mul-le-mul_right, mul-le-mul_right, arith, lit<, lit≤}
use Rattle.std.proofs.Math.Path.{ap}
use Rattle.std.specs.Float.{nan, inf, fin, Format, binary32}
use Rattle.std.specs.Float.Ieee.{binary64, prec, low, emax, neg, round, units, odd, of_int, add, mul, div, lt}
use Rattle.std.specs.Float.Ieee.Back.{round_whole}
use Rattle.std.specs.Float.Ieee.Exact.{HasValue}
use Rattle.std.specs.Float.Ieee.Fits.{round_is, of_int-fits}
use Rattle.std.specs.Float.Ieee.Positive.{num, den, den_pos, value→cross}
use Rattle.model.specs.Limits.{most_spans, longest_beat, longest_distance}
use Rattle.floats.specs.Narrow.{narrowed}
use Rattle.floats.specs.Laws.Values.{Sized, UpTo, sized, mul_at_most, div_at_most, div_value, round_at_most, sum_at_most, add_ge}
use Rattle.floats.specs.Laws.Spans.{AtLeast}
use Rattle.floats.specs.Laws.Monotone.{Below, mul_below, div_below, add_below, count_mono}
use Rattle.floats.specs.Laws.Wholes.{count_lt, count_ge}
use Rattle.floats.specs.declared.Way.TheVariants.{Floor, Even}
use Rattle.mania.specs.declared.Facts.{Facts}
use Rattle.model.specs.declared.Object.{Object}
use Rattle.floats.specs.Least.{clamped}
use Rattle.mania.specs.Steps.{single, double, double#}
use Rattle.mania.specs.PathObject.{adjusted_beat, distance_of, start_time, end_time}

pub whole_upto : (f : Format) (m n : ℕ) → m ≤ 2 ^ prec f → m ≤ n → UpTo n (round f false m 1)
whole_upto f m n h k =
    let x = round f false m 1 in
    let v = round_whole f false m h in
    record { size = sized x m 1 v; high = le_trans (le_of_eq (sym (mul-one (num x)) ∙ value→cross x m 1 v)) (mul-le-mul_right (den x) k) }

pick : (n : ℕ) (b : Bool) (x y : Float) → UpTo n x → UpTo n y → UpTo n (if b then x else y)
pick n true x y h k = h
pick n false x y h k = k

upto_clamped : (n : ℕ) (low high x : Float) → UpTo n low → UpTo n high → UpTo n x → UpTo n (clamped low high x)
unfolding clamped
upto_clamped n low high x h k l = go (lt x low) (lt high x)
  where
    go : (a b : Bool) → UpTo n (cond a low (cond b high x))
    go true b = h
    go false true = k
    go false false = l

-- ---- the adjusted beat length is at most 6,000,000

some_num : (k N D : ℕ) → 0 < D → D ≤ k * N → 0 < N
some_num k zero D h l = omega arith
some_num k (suc N) D h l = omega arith

neg_units : (f : Format) (q k : ℕ) → neg (units f true q k) ≡ units f false q k
unfolding neg units odd
neg_units f q k = go (ltb (q * 2 ^ k) (2 ^ (low f + suc (emax f)))) q
  where
    go : (b : Bool) (q : ℕ) → neg (cond b (odd (suc (prec f)) true q k (low f)) (inf true)) ≡ cond b (odd (suc (prec f)) false q k (low f)) (inf false)
    go true zero = refl
    go true (suc q) = refl
    go false q = refl

neg_round : (f : Format) (a c : ℕ) → neg (round f true a c) ≡ round f false a c
neg_round f a c = ap neg (round_is f true a c) ∙ neg_units f _ _ ∙ sym (round_is f false a c)

narrowed_is : (x : Float) → Sized x → narrowed x ≡ round binary32 false (num x) (den x)
unfolding narrowed
narrowed_is nan v = absurd v
narrowed_is (inf s) v = absurd v
narrowed_is (fin s m e) v = ap (λ (b : Bool). round binary32 b (num (fin s m e)) (den (fin s m e))) v.0

minus_hundred : HasValue (neg (double 100 1)) true 100 1
unfolding neg round
minus_hundred = (refl, refl)

-- the bounds of a slider's duration, step by step
abbrev longest_adjusted : ℕ
longest_adjusted = longest_beat * 100

abbrev longest_path : ℕ
longest_path = longest_distance * longest_adjusted

abbrev longest_spanned : ℕ
longest_spanned = longest_path * most_spans

abbrev longest_lasting : ℕ
longest_lasting = 3 * longest_spanned

module _ (velocity beat : Float) (h : AtLeast 10 velocity) (k : UpTo longest_beat beat) where
  abbrev as_beat : Float
  as_beat = div binary64 (neg (double 100 1)) velocity

  positive : 0 < num velocity
  positive = some_num 10 (num velocity) (den velocity) (den_pos velocity) h.low

  back : UpTo 1000 (neg as_beat)
  back =
      let e : as_beat ≡ round binary64 true (100 * den velocity) (num velocity * 1) =
      div_value binary64 (neg (double 100 1)) velocity true false 100 1 (num velocity) (den velocity) (lit< tt) (den_pos velocity) positive minus_hundred h.size in
      rw (e, neg_round binary64 (100 * den velocity) (num velocity * 1))
      (round_at_most binary64 (100 * den velocity) (num velocity * 1) 1000 (scaled positive) (lit≤ tt) (reach (num velocity) (den velocity) h.low))
    where
      scaled : {n : ℕ} → 0 < n → 0 < n * 1
      scaled h = omega arith

      reach : (N D : ℕ) → D ≤ 10 * N → 100 * D ≤ 1000 * (N * 1)
      reach N D l = omega arith

  narrow : UpTo 10000 (narrowed (neg as_beat))
  narrow =
      rw (narrowed_is (neg as_beat) back.size)
      (round_at_most binary32 (num (neg as_beat)) (den (neg as_beat)) 10000 (den_pos (neg as_beat)) (lit≤ tt) (le_trans back.high (mul-le-mul_right (den (neg as_beat)) (lit≤ tt))))

  clamp : UpTo 10000 (clamped (single 10 1) (single 10000 1) (narrowed (neg as_beat)))
  clamp = upto_clamped 10000 _ _ _ (whole_upto binary32 10 10000 (lit≤ tt) (lit≤ tt)) (whole_upto binary32 10000 10000 (lit≤ tt) (lit≤ tt)) narrow

  part : UpTo 100 (div binary64 (clamped (single 10 1) (single 10000 1) (narrowed (neg as_beat))) (double 100 1))
  part =
      let z = clamped (single 10 1) (single 10000 1) (narrowed (neg as_beat)) in
      rw (div_value binary64 z (double 100 1) false false (num z) (den z) 100 1 (den_pos z) (lit< tt) (lit< tt) clamp.size (round_whole binary64 false 100 (lit≤ tt)))
      (round_at_most binary64 (num z * 1) (100 * den z) 100 (more (den_pos z)) (lit≤ tt) (reach (num z) (den z) clamp.high))
    where
      more : {n : ℕ} → 0 < n → 0 < 100 * n
      more h = omega arith

      reach : (N D : ℕ) → N ≤ 10000 * D → N * 1 ≤ 100 * (100 * D)
      reach N D l = omega arith

  pub adjusted : UpTo longest_adjusted (adjusted_beat velocity beat)
  unfolding adjusted_beat
  adjusted =
      let m = pick 100 (lt as_beat (double 0 1)) _ _ part (whole_upto binary64 1 100 (lit≤ tt) (lit≤ tt)) in
      mul_at_most binary64 beat _ longest_beat 100 k m (lit≤ tt)

-- ---- the end

hundredth_upto : UpTo 1 (double 1 100)
unfolding round
hundredth_upto = record { size = (refl, refl); high = lit≤ tt }

int_upto : (n k : ℕ) → n ≤ 2 ^ 53 → n ≤ k → UpTo k (double# n)
unfolding of_int
int_upto n k h l = whole_upto binary64 n k h l

int_whole : (n : ℕ) → n ≤ 2 ^ 53 → num (double# n) ≡ n * den (double# n)
unfolding of_int
int_whole n h = let x = round binary64 false n 1 in sym (mul-one (num x)) ∙ value→cross x n 1 (round_whole binary64 false n h)

module _ (f : Facts) (o : Object) (spans : ℕ) (distance : Option Float) (n : spans ≤ most_spans) (d : UpTo longest_distance (distance_of distance)) (v : AtLeast 10 f.velocity) (b : UpTo longest_beat f.beat)
    (m : AtLeast 3 f.multiplier) where
  abbrev start : ℕ
  start = start_time o

  start_lt : start < 2 ^ 31
  unfolding start_time
  start_lt = count_lt Even o.start

  start_small : start ≤ 2 ^ 53
  start_small = below start start_lt
    where
      below : (i : ℕ) → i < 2 ^ 31 → i ≤ 2 ^ 53
      below i h = omega arith

  abbrev path : Float
  path = mul binary64 (distance_of distance) (adjusted_beat f.velocity f.beat)

  abbrev spanned : Float
  spanned = mul binary64 path (double# spans)

  abbrev whole : Float
  whole = mul binary64 spanned (double 1 100)

  abbrev lasts : Float
  lasts = div binary64 whole f.multiplier

  spans_upto : UpTo most_spans (double# spans)
  spans_upto = int_upto spans most_spans (le_trans n (lit≤ tt)) n

  path_upto : UpTo longest_path path
  path_upto = mul_at_most binary64 (distance_of distance) (adjusted_beat f.velocity f.beat) longest_distance longest_adjusted d (adjusted f.velocity f.beat v b) (lit≤ tt)

  spanned_upto : UpTo longest_spanned spanned
  spanned_upto = mul_at_most binary64 path (double# spans) longest_path most_spans path_upto spans_upto (lit≤ tt)

  whole_upto_hundredth : UpTo longest_spanned whole
  whole_upto_hundredth = mul_at_most binary64 spanned (double 1 100) longest_spanned 1 spanned_upto hundredth_upto (lit≤ tt)

  multiplier_some : 0 < num f.multiplier
  multiplier_some = some_num 3 (num f.multiplier) (den f.multiplier) (den_pos f.multiplier) m.low

  lasts_upto : UpTo longest_lasting lasts
  lasts_upto = div_at_most binary64 whole f.multiplier longest_spanned 3 whole_upto_hundredth m.size multiplier_some m.low (lit≤ tt)

  start_upto : UpTo (2 ^ 31) (double# start)
  start_upto = int_upto start (2 ^ 31) start_small (under start start_lt)
    where
      under : (i : ℕ) → i < 2 ^ 31 → i ≤ 2 ^ 31
      under i h = omega arith

  end_sized : Sized (add binary64 (double# start) lasts)
  end_sized =
      (sum_at_most binary64 (double# start) lasts (of_int-fits binary64 (pos start)) start_upto.size lasts_upto.size (2 ^ 31) longest_lasting start_upto.high lasts_upto.high (lit< tt)).size

  pub not_before : start ≤ end_time f o spans distance
  unfolding end_time
  not_before =
      let x = double# start in
      let S = add binary64 x lasts in
      let g : num x * den S ≤ num S * den x = add_ge binary64 x lasts (of_int-fits binary64 (pos start)) start_upto.size lasts_upto.size end_sized in
      count_ge Floor S (num S) (den S) start (den_pos S) end_sized start_lt
      (le_of_mul-le-mul_right (le_trans (le_of_eq (mul_right_comm start (den S) (den x) ∙ ap (λ (z : ℕ). z * den S) (sym (int_whole start start_small)))) g) (den_pos x))

-- ---- a larger distance has no earlier end: each step keeps the order, and so does the floor
module _ (f : Facts) (o : Object) (spans : ℕ) (near far : Option Float) (n : spans ≤ most_spans) (d : UpTo longest_distance (distance_of near)) (e : UpTo longest_distance (distance_of far)) (v : AtLeast 10 f.velocity)
    (b : UpTo longest_beat f.beat) (m : AtLeast 3 f.multiplier) (h : Below (distance_of near) (distance_of far)) where
  pub end_mono : end_time f o spans near ≤ end_time f o spans far
  unfolding end_time
  end_mono =
      let a = (adjusted f.velocity f.beat v b).size in
      let p = (path_upto f o spans near n d v b m).size in
      let q = (path_upto f o spans far n e v b m).size in
      let s = (spanned_upto f o spans near n d v b m).size in
      let t = (spanned_upto f o spans far n e v b m).size in
      let i = (whole_upto_hundredth f o spans near n d v b m).size in
      let j = (whole_upto_hundredth f o spans far n e v b m).size in
      let k = (lasts_upto f o spans near n d v b m).size in
      let l = (lasts_upto f o spans far n e v b m).size in
      let z = multiplier_some f o spans near n d v b m in
      let h1 = mul_below binary64 (distance_of near) (distance_of far) (adjusted_beat f.velocity f.beat) d.size e.size a h p q in
      let h2 = mul_below binary64 _ _ (double# spans) p q (spans_upto f o spans near n d v b m).size h1 s t in
      let h3 = mul_below binary64 _ _ (double 1 100) s t hundredth_upto.size h2 i j in
      let h4 = div_below binary64 _ _ f.multiplier i j m.size h3 z k l in
      let h5 = add_below binary64 _ _ (double# (start_time o)) k l (start_upto f o spans near n d v b m).size h4 (end_sized f o spans near n d v b m) (end_sized f o spans far n e v b m) in
      count_mono Floor _ _ (end_sized f o spans near n d v b m) (end_sized f o spans far n e v b m) h5
