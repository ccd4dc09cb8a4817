-- Why the answers are exact. A rounded setting rises with it, and each whole number between the rounded ends of a range is a value of the range, or has the
-- same columns as an end; a slider's end rises with its distance. Assumes nothing.
use Rattle.std.specs.Prelude.{◌≡◌, true, false, not, ◌&&◌, ◌||◌, List, [], ◌∷◌, ◌⊎◌, T, eqb, leb, ltb, pos, Float, length, if◌then◌else◌, Some, None}
use Rattle.std.proofs.Math.Path.{refl, sym, ap}
use Rattle.std.proofs.Common.{◌∙◌, subst, lt_of_lt_of_le, le_of_mul-le-mul_right, mul-le-mul_right, eq-or-lt_of_le, le_of_suc-le-suc, le_refl, mod-lt, leb-true, ltb-true, ltb-false, eqb-true, lit<, lit≤}
use Prim.Native.Nat.{ℕ, zero, suc, ◌+◌, ◌-◌, ◌*◌, ◌/◌, ◌%◌, ◌^◌, ◌≤◌, ◌<◌, max}
use Rattle.std.proofs.Math.Nat.{zero-div}
use native.Mathlib.Omega.{arith}
use Rattle.std.proofs.Math.Bool.{Bool}
use Rattle.std.proofs.Math.Logic.{inl, inr}
use Rattle.std.proofs.lemmas.Bool.{eqb-false}
use Rattle.std.specs.Int.Bits.{bit_or}
use Rattle.std.specs.Float.{nan, inf, fin, binary32, binary64}
use Rattle.std.specs.Float.Ieee.{fits, le, lt, eq, round}
use Rattle.std.specs.Float.Ieee.Back.{round_whole}
use Rattle.std.specs.Float.Ieee.Exact.{HasValue}
use Rattle.std.specs.Float.Ieee.Fits.{of_int-fits, and_i}
use Rattle.std.specs.Float.Ieee.Order.{le_of_values}
use Rattle.std.specs.Float.Ieee.Positive.{num, den, den_pos}
use Rattle.model.specs.Limits.{most_repeats, most_spans, most_entries, longest_beat, longest_distance, setting_range, multiplier_range, beat_range, velocity_range, span_range, distance_range}
use Rattle.rules.specs.Numbers as Numbers
use Rattle.floats.specs.Range.{in_range}
use Rattle.floats.specs.Whole.{count}
use Rattle.floats.specs.declared.Way.TheVariants.{Even}
use Rattle.floats.specs.Laws.Values.{Sized, sized, UpTo}
use Rattle.floats.specs.Laws.Ranges.{in_sized, in_low, in_high, le_sizes}
use Rattle.floats.specs.Laws.Spans.{AtLeast, up_to, at_least}
use Rattle.floats.specs.Laws.Wholes.{count_le}
use Rattle.floats.specs.Laws.Integers.{int_value, count_int}
use Rattle.floats.specs.Laws.Monotone.{Below, count_mono, under_whole, over_whole}
use Rattle.model.specs.declared.Kind.{Kind}
use Rattle.model.specs.declared.Object.{Object}
use Rattle.model.specs.declared.Settings.{Settings}
use Rattle.model.specs.Song.{Song}
use Rattle.model.specs.Totals.{longer, sliders_and_spinners}
use Rattle.mania.specs.Steps.{single, single#, double}
use Rattle.mania.specs.Single.{inside, pattern_fits, allowed_difficulty, settings_fit, object_fits, entry_refusal, points_fit, position_fits, distance_fits as distance_in, node_fits, kind_fits}
use Rattle.mania.specs.PathObject.{end_time, start_time, distance_of, latest}
use Rattle.mania.specs.Laws.Tests.{two, three}
use Rattle.mania.specs.Laws.SliderTimes.{end_mono}
use Rattle.mania.proofs.Masks.{bit, or_bit, own_bit}
use Rattle.mania.proofs.Frees.{other_bit}
use Rattle.mania.specs.Convert.{columns_at, columns_by, keys_or, target_columns, columns_of}
use Rattle.settings.specs.Laws.{columns_between}
use Rattle.announced.specs.declared.Bounds.{Bounds}
use Rattle.announced.specs.declared.Slider.{Slider}
use Rattle.announced.specs.Announced.{setting_fits, columns_refusal, SettingIn, Yields, facts_of, object_of, end_at, nothing, rest_refusal, distance_fits, DistanceIn, EndsFrom}
use Rattle.announced.specs.Gathered.{gathered}

-- ---- the bits of the columns gathered

one_or_none : (a c : ℕ) → (bit (2 ^ a) c ≡ 1) → a ≡ c
one_or_none a c h = elim (same_or_not (eqb c a) refl) [ inl e ↦ sym e | inr n ↦ absurd (no (bit (2 ^ a) c) h (other_bit a c n)) ]
  where
    no : (k : ℕ) → k ≡ 1 → k ≡ 0 → ⊥
    no k p q = omega arith

    same_or_not : (b : Bool) → eqb c a ≡ b → (c ≡ a) ⊎ (c ≡ a → ⊥)
    same_or_not true e = inl (eqb-true c a e)
    same_or_not false e = inr (eqb-false c a e)

module _ (long objects low high from c : ℕ) where
  -- c is the count of the od k above the first, with one of the ends of cs
  abbrev GivenAt : ℕ → Type 0
  GivenAt k = (columns_at long objects low (from + k) ≡ c) ⊎ (columns_at long objects high (from + k) ≡ c)

  bits : (n : ℕ) → bit (gathered long objects low high from (suc n)) c
      ≡ max (max (bit (gathered long objects low high from n) c) (bit (2 ^ columns_at long objects low (from + n)) c)) (bit (2 ^ columns_at long objects high (from + n)) c)
  unfolding gathered
  bits n =
      let g = gathered long objects low high from n in
      let a = 2 ^ columns_at long objects low (from + n) in
      let b = 2 ^ columns_at long objects high (from + n) in
      or_bit (bit_or g a) b c ∙ ap (λ (z : ℕ). max z (bit b c)) (or_bit g a c)

  which : (i j k z : ℕ) → z ≡ max (max i j) k → z ≡ 1 → i < 2 → j < 2 → k < 2 → (i ≡ 1) ⊎ ((j ≡ 1) ⊎ (k ≡ 1))
  which zero zero k z e h p q r = inr (inr (omega arith))
  which zero (suc j) k z e h p q r = inr (inl (omega arith))
  which (suc i) j k z e h p q r = inl (omega arith)

  bit_lt : (m : ℕ) → bit m c < 2
  bit_lt m = mod-lt (m / 2 ^ c) (lit< tt)

  pub gathered_gives : (n : ℕ) → bit (gathered long objects low high from n) c ≡ 1 → (k : ℕ) × (k < n) × GivenAt k
  unfolding gathered
  gathered_gives zero h = absurd (none (2 ^ c) h)
    where
      none : (p : ℕ) → 0 / p % 2 ≡ 1 → ⊥
      none p e = omega (arith, ap (λ (i : ℕ). i % 2) (zero-div p))
  gathered_gives (suc n) h = elim (which _ _ _ _ (bits n) h (bit_lt _) (bit_lt _) (bit_lt _)) [
    | inl e ↦ let r = gathered_gives n e in (r.0, more r.0 n r.1, r.2)
    | inr f ↦ (n, grow n, elim f [ inl e ↦ inl (one_or_none _ c e) | inr e ↦ inr (one_or_none _ c e) ])
  ]
    where
      more : (k n : ℕ) → k < n → k < suc n
      more k n l = omega arith

      grow : (n : ℕ) → n < suc n
      grow n = omega arith

  pub gathered_has : (n k : ℕ) → k < n → GivenAt k → bit (gathered long objects low high from n) c ≡ 1
  gathered_has zero k l g = absurd (no l)
    where
      no : k < 0 → ⊥
      no l = omega arith
  gathered_has (suc n) k l g = elim (eq-or-lt_of_le (le_of_suc-le-suc l)) [
    | inl e ↦ bits n ∙ here (subst GivenAt e g)
    | inr m ↦ bits n ∙ first _ _ _ (gathered_has n k m g) (bit_lt _) (bit_lt _)
  ]
    where
      first : (i j k : ℕ) → i ≡ 1 → j < 2 → k < 2 → max (max i j) k ≡ 1
      first i j k e p q = omega arith

      second : (i j k : ℕ) → j ≡ 1 → i < 2 → k < 2 → max (max i j) k ≡ 1
      second i j k e p q = omega arith

      third : (i j k : ℕ) → k ≡ 1 → i < 2 → j < 2 → max (max i j) k ≡ 1
      third i j k e p q = omega arith

      own : (a : ℕ) → a ≡ c → bit (2 ^ a) c ≡ 1
      own a e = ap (λ (z : ℕ). bit (2 ^ z) c) e ∙ own_bit c

      here : GivenAt n → max (max (bit (gathered long objects low high from n) c) (bit (2 ^ columns_at long objects low (from + n)) c)) (bit (2 ^ columns_at long objects high (from + n)) c) ≡ 1
      here (inl e) = second _ _ _ (own _ e) (bit_lt _) (bit_lt _)
      here (inr e) = third _ _ _ (own _ e) (bit_lt _) (bit_lt _)

-- ---- values of a range

-- a value that is not negative, between the ends
in_range_law : (lo hi x : Float) → Sized x → T (le lo x) → T (le x hi) → T (in_range lo hi x)
unfolding in_range
in_range_law lo hi nan v h k = absurd v
in_range_law lo hi (inf s) v h k = absurd v
in_range_law lo hi (fin true m e) v h k = absurd (subst T v.0 tt)
in_range_law lo hi (fin false m e) v h k = and_i (le lo (fin false m e)) (le (fin false m e) hi) h k

le_self : (x : Float) → Sized x → T (le x x)
le_self x v = le_of_values x x (num x) (den x) (num x) (den x) (den_pos x) (den_pos x) v v (le_refl (num x * den x))

-- at most what is at most n
upto_below : (n : ℕ) (x y : Float) → Sized x → UpTo n y → Below x y → UpTo n x
upto_below n x y v u h = record { size = v; high = le_of_mul-le-mul_right (go (num x) (den x) (num y) (den y) h u.high) (den_pos y) }
  where
    go : (a b c d : ℕ) → a * d ≤ c * b → c ≤ n * d → a * d ≤ n * b * d
    go a b c d h k = omega (arith, mul-le-mul_right b k)

-- a test's truth
hold : {b : Bool} → b ≡ true → T b
hold e = subst T (sym e) tt

-- ---- a range of od or cs

record Fit (r : Bounds Float) : Type 0 where
  low : UpTo 10 r.low
  high : UpTo 10 r.high
  order : T (le r.low r.high)

fit : (r : Bounds Float) → setting_fits r ≡ true → Fit r
unfolding setting_fits
fit r h =
    let t = three (inside setting_range r.low) (inside setting_range r.high) (le r.low r.high) h in
    let zero_sized = sized setting_range.low 0 1 (round_whole binary32 false 0 (lit≤ tt)) in
    let ten = round_whole binary32 false 10 (lit≤ tt) in
    record {
      low = up_to 10 setting_range.low setting_range.high r.low zero_sized ten (hold t.0);
      high = up_to 10 setting_range.low setting_range.high r.high zero_sized ten (hold t.1);
      order = hold t.2;
    }

module _ (r : Bounds Float) (h : setting_fits r ≡ true) where
  lows : UpTo 10 r.low
  lows = (fit r h).low

  highs : UpTo 10 r.high
  highs = (fit r h).high

  -- the rounded ends
  pub ends_order : count Even r.low ≤ count Even r.high
  ends_order = count_mono Even r.low r.high lows.size highs.size (le_sizes r.low r.high lows.size highs.size (fit r h).order)

  pub high_small : count Even r.high ≤ 10
  high_small = count_le Even r.high (num r.high) (den r.high) 10 (den_pos r.high) highs.size highs.high

  -- a value of the range rounds to a number between them
  between : (x : Float) → SettingIn r x → (count Even r.low ≤ count Even x) × (count Even x ≤ count Even r.high)
  between x i =
      let v = in_sized r.low r.high x lows.size highs.size i.1 in (
        count_mono Even r.low x lows.size v (in_low r.low r.high x lows.size highs.size i.1),
        count_mono Even x r.high v highs.size (in_high r.low r.high x lows.size highs.size i.1),
      )

  module _ (F : T (fits binary32 r.low)) (G : T (fits binary32 r.high)) where
    low_in : SettingIn r r.low
    low_in = (F, in_range_law r.low r.high r.low lows.size (le_self r.low lows.size) (fit r h).order)

    high_in : SettingIn r r.high
    high_in = (G, in_range_law r.low r.high r.high highs.size (fit r h).order (le_self r.high highs.size))

    -- and each number between them is a value of the range, rounded: at the ends that of the end, and else the number itself
    reached : (i : ℕ) → count Even r.low ≤ i → i ≤ count Even r.high → (x : Float) × SettingIn r x × (count Even x ≡ i)
    reached i p q = elim (eq-or-lt_of_le p) [
      | inl e ↦ (r.low, low_in, e)
      | inr l ↦ elim (eq-or-lt_of_le q) [
        | inl e ↦ (r.high, high_in, sym e)
        | inr m ↦ (
          single# i,
          (of_int-fits binary32 (pos i), in_range_law r.low r.high (single# i) (sized (single# i) i 1 (value m)) (under_whole Even r.low (single# i) i lows.size (value m) (few i m) l) (over_whole Even r.high (single# i) i highs.size (value m) m)),
          count_int Even binary32 i (small i m) (few i m),
        )
      ]
    ]
      where
        under : (i c : ℕ) → i < c → c ≤ 10 → i ≤ 16777216
        under i c a b = omega arith

        small : (i : ℕ) → i < count Even r.high → i ≤ 2 ^ 24
        small i m = under i (count Even r.high) m high_small

        few : (i : ℕ) → i < count Even r.high → i < 2 ^ 31
        few i m = less i (small i m)
          where
            less : (i : ℕ) → i ≤ 16777216 → i < 2147483648
            less i h = omega arith

        value : i < count Even r.high → HasValue (single# i) false i 1
        value m = int_value binary32 i (small i m)

-- ---- the checks of the ranges

passed : (b : Bool) (n r : ℕ) → 0 < n → (if not b then n else r) ≡ 0 → (b ≡ true) × (r ≡ 0)
passed true n r h e = (refl, e)
passed false n r h e = absurd (omega arith)

-- what the checks say where none fails
pub record Checked (od cs : Bounds Float) (long objects : ℕ) : Type 0 where
  pub od_fits : setting_fits od ≡ true
  pub cs_fits : setting_fits cs ≡ true
  pub enough : long ≤ objects

pub checked : (od cs : Bounds Float) (long objects : ℕ) → columns_refusal od cs long objects ≡ 0 → Checked od cs long objects
unfolding columns_refusal
checked od cs long objects e =
    let p = passed (setting_fits od && setting_fits cs) 20 _ (lit< tt) e in
    let t = two (setting_fits od) (setting_fits cs) p.0 in
    record { od_fits = t.0; cs_fits = t.1; enough = ltb-false objects long (second (ltb most_entries objects) (ltb objects long) 21 (lit< tt) p.1) }
  where
    second : (a b : Bool) (n : ℕ) → 0 < n → (if a || b then n else 0) ≡ 0 → b ≡ false
    second true b n h e = absurd (omega arith)
    second false true n h e = absurd (omega arith)
    second false false n h e = refl

-- ---- songs by their counts

-- without a key choice the columns are those of the counts
columns_by_counts : {long objects : ℕ} (song : Song) → song.keys ≡ 0 → length song.objects ≡ objects → sliders_and_spinners song.objects ≡ long
    → columns_by song.settings long objects ≡ columns_of song
unfolding columns_of target_columns keys_or
columns_by_counts song e p q = rw (← p, ← q, e)

abbrev at_zero : Kind → Object
at_zero kind = record { position = record { x = single 0 1; y = single 0 1 }; start = double 0 1; sound = 0; kind = kind }

-- spinners, and then circles
some_objects : (long objects : ℕ) → long ≤ objects → (l : List Object) × (length l ≡ objects) × (sliders_and_spinners l ≡ long)
unfolding sliders_and_spinners longer
some_objects zero zero h = ([], refl, refl)
some_objects zero (suc n) h = let l = some_objects zero n (omega arith) in (at_zero Kind.Circle ∷ l.0, ap suc l.1, l.2)
some_objects (suc k) zero h = absurd (omega arith)
some_objects (suc k) (suc n) h = let l = some_objects k n (omega arith) in (at_zero (Kind.Spinner (double 0 1)) ∷ l.0, ap suc l.1, omega (arith, l.2))

-- ---- the column counts of two ranges are those gathered

module _ (od cs : Bounds Float) (long objects : ℕ) (e : columns_refusal od cs long objects ≡ 0) (F : T (fits binary32 od.low)) (G : T (fits binary32 od.high))
    (F' : T (fits binary32 cs.low)) (G' : T (fits binary32 cs.high)) where
  h : setting_fits od ≡ true
  h = (checked od cs long objects e).od_fits

  k : setting_fits cs ≡ true
  k = (checked od cs long objects e).cs_fits

  abbrev first : ℕ
  first = count Even od.low

  abbrev last : ℕ
  last = count Even od.high

  abbrev mask : ℕ
  mask = gathered long objects (count Even cs.low) (count Even cs.high) first (suc last - first)

  -- a song with this od and cs
  with_settings : (c : ℕ) (x y : Float) → SettingIn od x → SettingIn cs y → columns_at long objects (count Even y) (count Even x) ≡ c → Yields od cs long objects c
  unfolding columns_by
  with_settings c x y i j t =
      let s : Settings = record { hp = single 0 1; cs = y; od = x; ar = single 0 1; multiplier = double 1 1 } in
      let l = some_objects long objects (checked od cs long objects e).enough in
      let song : Song =
      record { keys = 0; settings = s; breaks = []; timing_points = []; difficulty_points = []; effect_points = []; objects = l.0 } in
      record {
        song = song;
        no_keys = refl;
        od_in = i;
        cs_in = j;
        counted = l.1;
        counted_long = l.2;
        gives = sym (columns_by_counts song refl l.1 l.2) ∙ t;
      }

  pub possible : (c : ℕ) → bit mask c ≡ 1 → Yields od cs long objects c
  possible c b =
      let g = gathered_gives long objects (count Even cs.low) (count Even cs.high) first c (suc last - first) b in
      let x = reached od h F G (first + g.0) (omega arith) (inside first last g.0 g.1) in
      elim g.2 [
        | inl t ↦ with_settings c x.0 cs.low x.1 (low_in cs k F' G') (ap (columns_at long objects (count Even cs.low)) x.2 ∙ t)
        | inr t ↦ with_settings c x.0 cs.high x.1 (high_in cs k F' G') (ap (columns_at long objects (count Even cs.high)) x.2 ∙ t)
      ]
    where
      inside : (a b i : ℕ) → i < suc b - a → a + i ≤ b
      inside a b i l = omega arith

  pub no_other : (c : ℕ) → Yields od cs long objects c → bit mask c ≡ 1
  unfolding columns_by
  no_other c y =
      let s = y.song.settings in
      let n = count Even s.od in
      let p = between od h s.od y.od_in in
      let q = between cs k s.cs y.cs_in in
      let back : first + (n - first) ≡ n = omega (arith, p.0) in
      let at = ap (columns_at long objects (count Even s.cs)) back ∙ columns_by_counts y.song y.no_keys y.counted y.counted_long ∙ y.gives in
      gathered_has long objects (count Even cs.low) (count Even cs.high) first c (suc last - first) (n - first) (omega (arith, p.0, p.1))
      (elim (columns_between long objects (count Even s.cs) (count Even cs.low) (count Even cs.high) (first + (n - first)) q.0 q.1) [
        | inl e ↦ inl (sym e ∙ at)
        | inr e ↦ inr (sym e ∙ at)
      ])

-- ---- a slider's end

and_true : (b : Bool) → (b && true) ≡ b
and_true true = refl
and_true false = refl

-- of the entry's checks only these can fail
module _ (s : Slider) where
  pattern_fits_law : pattern_fits nothing 1 ≡ true
  unfolding pattern_fits nothing
  pattern_fits_law = refl

  settings_fit_law : settings_fit (facts_of s) ≡ inside multiplier_range s.multiplier
  unfolding settings_fit allowed_difficulty facts_of round le lt eq
  settings_fit_law = and_true (inside multiplier_range s.multiplier)

  abbrev object_tests : Bool
  object_tests = position_fits s.position && inside span_range s.start && ltb s.sound 16 && kind_fits (Kind.Slider s.repeats None s.node)

  object_fits_law : object_fits (facts_of s) nothing (object_of s None) ≡ object_tests
  unfolding object_fits facts_of object_of nothing round
  object_fits_law = and_true (object_tests && place && true) ∙ and_true (object_tests && place) ∙ ap (λ (b : Bool). object_tests && b) place_fits ∙ and_true object_tests
    where
      place : Bool
      place = position_fits (record { x = single 0 1; y = single 0 1 })

      place_fits : place ≡ true
      place_fits = unfold position_fits in_range le lt eq in refl

  -- 4 for the multiplier, 5 for beat length and velocity, 6 for position, start, sound, repeats and node sound
  abbrev pub rest_checks : ℕ
  rest_checks =
      if not (inside multiplier_range s.multiplier) then Numbers.setting
      else if not (points_fit (facts_of s)) then Numbers.break_or_point
      else if not object_tests then Numbers.object
      else 0

  pub rest_is : rest_refusal s ≡ rest_checks
  unfolding rest_refusal entry_refusal
  rest_is = rw (pattern_fits_law, settings_fit_law, object_fits_law)

-- what the checks say of the facts
record Known (s : Slider) : Type 0 where
  multiplier : AtLeast 3 s.multiplier
  velocity : AtLeast 10 s.velocity
  beat : UpTo longest_beat s.beat
  spans : s.repeats + 1 ≤ most_spans

known : (s : Slider) → rest_refusal s ≡ 0 → Known s
unfolding points_fit facts_of kind_fits round
known s e =
    let m = passed (inside multiplier_range s.multiplier) Numbers.setting _ (lit< tt) (sym (rest_is s) ∙ e) in
    let p = passed (inside beat_range s.beat && inside velocity_range s.velocity) Numbers.break_or_point _ (lit< tt) m.1 in
    let place = position_fits s.position in
    let start = inside span_range s.start in
    let sound = ltb s.sound 16 in
    let o = passed (place && start && sound && (leb s.repeats most_repeats && distance_in None && node_fits s.node)) Numbers.object _ (lit< tt) p.1 in
    let t = two (inside beat_range s.beat) (inside velocity_range s.velocity) p.0 in
    let k = (two (place && start && sound) (leb s.repeats most_repeats && distance_in None && node_fits s.node) o.0).1 in
    record {
      multiplier = at_least 3 multiplier_range.low multiplier_range.high s.multiplier (record { size = (refl, refl); low = lit≤ tt }) (refl, refl) (hold m.0);
      velocity = at_least 10 velocity_range.low velocity_range.high s.velocity (record { size = (refl, refl); low = lit≤ tt }) (refl, refl) (hold t.1);
      beat = up_to longest_beat beat_range.low beat_range.high s.beat (refl, refl) (refl, refl) (hold t.0);
      spans = few s.repeats (leb-true s.repeats most_repeats (three (leb s.repeats most_repeats) (distance_in None) (node_fits s.node) k).0);
    }
  where
    few : (n : ℕ) → n ≤ most_repeats → n + 1 ≤ most_spans
    few n h = omega arith

-- the small numbers of a slider that passes the checks
pub small_fields : (s : Slider) → rest_refusal s ≡ 0 → (s.sound < 16) × (s.repeats ≤ most_repeats) × (node_fits s.node ≡ true)
unfolding points_fit facts_of kind_fits
small_fields s e =
    let m = passed (inside multiplier_range s.multiplier) Numbers.setting _ (lit< tt) (sym (rest_is s) ∙ e) in
    let p = passed (inside beat_range s.beat && inside velocity_range s.velocity) Numbers.break_or_point _ (lit< tt) m.1 in
    let place = position_fits s.position in
    let start = inside span_range s.start in
    let sound = ltb s.sound 16 in
    let few = leb s.repeats most_repeats in
    let o = passed (place && start && sound && (few && distance_in None && node_fits s.node)) Numbers.object _ (lit< tt) p.1 in
    let t = two (place && start && sound) (few && distance_in None && node_fits s.node) o.0 in
    let k = three few (distance_in None) (node_fits s.node) t.1 in
    (ltb-true s.sound 16 (three place start sound t.0).2, leb-true s.repeats most_repeats k.0, k.2)

module _ (s : Slider) (r : Bounds Float) (e : rest_refusal s ≡ 0) (h : distance_fits r ≡ true) (F : T (fits binary64 r.low)) (G : T (fits binary64 r.high)) where
  tests : (inside distance_range r.low ≡ true) × (inside distance_range r.high ≡ true) × (le r.low r.high ≡ true)
  unfolding distance_fits distance_in
  tests = three (inside distance_range r.low) (inside distance_range r.high) (le r.low r.high) h

  upto : (x : Float) → inside distance_range x ≡ true → UpTo longest_distance x
  upto x t = up_to longest_distance distance_range.low distance_range.high x (sized distance_range.low 0 1 (round_whole binary64 false 0 (lit≤ tt))) (round_whole binary64 false longest_distance (lit≤ tt)) (hold t)

  low_upto : UpTo longest_distance r.low
  low_upto = upto r.low tests.0

  high_upto : UpTo longest_distance r.high
  high_upto = upto r.high tests.1

  -- the end rises with the distance
  rises : (x y : Float) → UpTo longest_distance x → UpTo longest_distance y → Below x y → end_at s x ≤ end_at s y
  unfolding end_at end_time start_time object_of facts_of distance_of
  rises x y v w b =
      let k = known s e in
      end_mono (facts_of s) (object_of s None) (s.repeats + 1) (Some x) (Some y) k.spans v w k.velocity k.beat k.multiplier b

  lower_in : DistanceIn r r.low
  lower_in = (F, in_range_law r.low r.high r.low low_upto.size (le_self r.low low_upto.size) (hold tests.2))

  upper_in : DistanceIn r r.high
  upper_in = (G, in_range_law r.low r.high r.high high_upto.size (hold tests.2) (le_self r.high high_upto.size))

  pub ends_from : EndsFrom s r (end_at s r.low) (end_at s r.high)
  ends_from =
      record {
        within = λ d i.
            let v = in_sized r.low r.high d low_upto.size high_upto.size i.1 in
            let up = in_high r.low r.high d low_upto.size high_upto.size i.1 in
            let u = upto_below longest_distance d r.high v high_upto up in
            (rises r.low d low_upto u (in_low r.low r.high d low_upto.size high_upto.size i.1), rises d r.high u high_upto up);
        first = (r.low, lower_in, refl);
        last = (r.high, upper_in, refl);
      }

  -- so 8 is given exactly where some distance in the range ends above the limit
  pub late : (latest < end_at s r.high → (d : Float) × DistanceIn r d × (latest < end_at s d)) × ((d : Float) × DistanceIn r d × (latest < end_at s d) → latest < end_at s r.high)
  late = (
    λ l. (r.high, upper_in, l),
    λ g. lt_of_lt_of_le g.2 (ends_from.within g.0 g.1).1,
  )
