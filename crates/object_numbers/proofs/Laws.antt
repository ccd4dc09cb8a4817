-- A number that its field cannot hold is refused as the field's largest value is. Assumes nothing.
use Rattle.std.specs.Prelude.{◌≡◌, Bool, true, false, not, ◌&&◌, cond, List, eqb, leb, Float, if◌then◌else◌, Option, Some, None}
use Rattle.std.proofs.Math.Path.{refl, ap₂}
use Rattle.std.proofs.Common.{sym, ap, ◌∙◌, arith, lit<, pow_mono}
use Prim.Native.Nat.{ℕ, zero, suc, ◌^◌, ◌≤◌, ◌<◌, min}
use Rattle.std.proofs.Math.Dec.{ltb, leb-suc-suc}
use Rattle.std.specs.Float.Ieee.Scale.{finite}
use borrow.Author.Tests.{eqb-true, eqb-false, leb-true, ltb-true, ltb-false, lt-ltb, le-ltb}
use Rattle.rules.specs.Numbers as Numbers
use Rattle.random.specs.declared.Random.{Random}
use Rattle.model.specs.Limits.{most_repeats, most_spans, span_range}
use Rattle.model.specs.declared.Kind.{Kind}
use Rattle.model.specs.declared.Kind.TheVariants.{Slider}
use Rattle.model.specs.declared.Object.{Object}
use Rattle.mania.specs.declared.Facts.{Facts}
use Rattle.mania.specs.declared.PrevValues.{PrevValues}
use Rattle.mania.specs.Laws.Tests.{two, three, four}
use Rattle.mania.specs.Laws.Singles.{pattern_fits_law}
use Rattle.mania.proofs.Laws.Singles.{single_checked}
use Rattle.mania.specs.Single.{inside, position_fits, pattern_fits, settings_fit, points_fit, distance_fits, node_fits, kind_fits, object_fits, entry_refusal, single_object}
use Rattle.object_numbers.specs.Single.{largest8, largest16, saturate8, saturate16, is_set, node_of, kind_of, object_of, previous_of}

-- ---- one number

-- a test against a bound that the field can hold
pub same_test : (n most bound : ℕ) → bound ≤ most → ltb (min n most) bound ≡ ltb n bound
same_test n most bound h = go (ltb n bound) refl
  where
    go : (b : Bool) → ltb n bound ≡ b → ltb (min n most) bound ≡ ltb n bound
    go true e = let z = ltb-true n bound e in lt-ltb (min n most) bound (omega arith) ∙ sym e
    go false e = let z = ltb-false n bound e in le-ltb (min n most) bound (omega arith) ∙ sym e

pub same_most : (n most bound : ℕ) → suc bound ≤ most → leb (min n most) bound ≡ leb n bound
same_most n most bound h = sym (leb-suc-suc (min n most) bound) ∙ same_test n most (suc bound) h ∙ leb-suc-suc n bound

-- a number within the bound is itself
pub itself : (n most bound : ℕ) → bound ≤ most → min n most < bound → min n most ≡ n
itself n most bound h k = omega arith

-- ---- a node sound and a kind

pub node_test : (given n : ℕ) → node_fits (node_of given (saturate8 n)) ≡ node_fits (node_of given n)
unfolding node_fits
node_test given n = go (is_set given)
  where
    go : (b : Bool) → node_fits (cond b (Some (saturate8 n)) None) ≡ node_fits (cond b (Some n) None)
    go true = same_test n largest8 16 (omega arith)
    go false = refl

pub node_itself : (given n : ℕ) → node_fits (node_of given (saturate8 n)) ≡ true → node_of given (saturate8 n) ≡ node_of given n
unfolding node_fits
node_itself given n = go (is_set given)
  where
    go : (b : Bool) → node_fits (cond b (Some (saturate8 n)) None) ≡ true → ◌≡◌ {A = Option ℕ} (cond b (Some (saturate8 n)) None) (cond b (Some n) None)
    go true h = ap Some (itself n largest8 16 (omega arith) (ltb-true (saturate8 n) 16 h))
    go false h = refl

module _ (repeats : ℕ) (distance : Option Float) (given node : ℕ) (duration : Float) where
  abbrev cut_kind : ℕ → Kind
  cut_kind kind = kind_of kind (saturate16 repeats) distance (node_of given (saturate8 node)) duration

  abbrev whole_kind : ℕ → Kind
  whole_kind kind = kind_of kind repeats distance (node_of given node) duration

  kind_test : (kind : ℕ) → kind_fits (cut_kind kind) ≡ kind_fits (whole_kind kind)
  unfolding kind_of kind_fits
  kind_test zero = refl
  kind_test (suc zero) = rw (same_most repeats largest16 most_repeats (omega arith), node_test given node) refl
  kind_test (suc (suc zero)) = refl
  kind_test (suc (suc (suc zero))) = refl
  kind_test (suc (suc (suc (suc k)))) = refl

  kind_itself : (kind : ℕ) → kind_fits (cut_kind kind) ≡ true → cut_kind kind ≡ whole_kind kind
  unfolding kind_of kind_fits
  kind_itself zero e = refl
  kind_itself (suc zero) e =
      let t = three (leb (saturate16 repeats) most_repeats) (distance_fits distance) (node_fits (node_of given (saturate8 node))) e in
      ap₂ (λ (r : ℕ) (n : Option ℕ). Slider r distance n)
      (itself repeats largest16 most_spans (omega arith) (omega (arith, leb-true (saturate16 repeats) most_repeats t.0))) (node_itself given node t.2)
  kind_itself (suc (suc zero)) e = refl
  kind_itself (suc (suc (suc zero))) e = refl
  kind_itself (suc (suc (suc (suc k)))) e = refl

-- ---- the single-object entry

-- what passes either test passes both
same_bool : (a b : Bool) → (a ≡ true → a ≡ b) → (b ≡ true → a ≡ b) → a ≡ b
same_bool true b h k = h refl
same_bool false true h k = k refl
same_bool false false h k = refl

-- at most 9 columns have a mask below 512
deck_mask : (columns mask : ℕ) → columns ≤ 9 → mask < 2 ^ columns → mask < 512
deck_mask columns mask h l = omega (arith, pow_mono {i = columns} {j = 9} h)

passed : (b : Bool) (n r : ℕ) → 0 < n → (if not b then n else r) ≡ 0 → (b ≡ true) × (r ≡ 0)
passed true n r h e = (refl, e)
passed false n r h e = absurd (omega arith)

module _ (f : Facts) (time before_x before_y : Float) (mask last reverse columns : ℕ) (x y start : Float) (sound kind repeats : ℕ) (distance : Option Float) (given node : ℕ) (duration : Float) where
  abbrev cut_previous : PrevValues
  cut_previous = previous_of time before_x before_y (saturate16 mask) (saturate8 last) reverse

  abbrev previous : PrevValues
  previous = previous_of time before_x before_y mask last reverse

  abbrev cut_object : Object
  cut_object = object_of x y start (saturate8 sound) (cut_kind repeats distance given node duration kind)

  abbrev object : Object
  object = object_of x y start sound (whole_kind repeats distance given node duration kind)

  same_numbers : saturate8 columns ≡ columns → saturate16 mask ≡ mask → saturate8 last ≡ last → (cut_previous ≡ previous) × (saturate8 columns ≡ columns)
  same_numbers c m l = (ap₂ (λ (m l : ℕ). previous_of time before_x before_y m l reverse) m l, c)

  pattern_cut : pattern_fits cut_previous (saturate8 columns) ≡ true → (cut_previous ≡ previous) × (saturate8 columns ≡ columns)
  pattern_cut e =
      let t = pattern_fits_law cut_previous (saturate8 columns) e in
      let m = deck_mask (saturate8 columns) (saturate16 mask) t.deck t.mask in
      same_numbers (omega (arith, t.deck)) (omega arith) (omega (arith, t.last, t.deck))

  pattern_whole : pattern_fits previous columns ≡ true → (cut_previous ≡ previous) × (saturate8 columns ≡ columns)
  pattern_whole e =
      let t = pattern_fits_law previous columns e in
      let m = deck_mask columns mask t.deck t.mask in
      same_numbers (omega (arith, t.deck)) (omega arith) (omega (arith, t.last, t.deck))

  same_fits : (cut_previous ≡ previous) × (saturate8 columns ≡ columns) → pattern_fits cut_previous (saturate8 columns) ≡ pattern_fits previous columns
  same_fits s = ap₂ pattern_fits s.0 s.1

  pattern_test : pattern_fits cut_previous (saturate8 columns) ≡ pattern_fits previous columns
  pattern_test = same_bool (pattern_fits cut_previous (saturate8 columns)) (pattern_fits previous columns) (λ e. same_fits (pattern_cut e)) (λ e. same_fits (pattern_whole e))

  object_test : object_fits f cut_previous cut_object ≡ object_fits f previous object
  unfolding object_fits
  object_test = rw (same_test sound largest8 16 (omega arith), kind_test repeats distance given node duration kind) refl

  object_itself : object_fits f cut_previous cut_object ≡ true → cut_object ≡ object
  unfolding object_fits
  object_itself e =
      let place = position_fits cut_object.position in
      let begins = inside span_range start in
      let soft = ltb (saturate8 sound) 16 in
      let kinds = kind_fits cut_object.kind in
      let rest = (two (place && begins && soft && kinds && position_fits cut_previous.position && finite time) (finite f.density) e).0 in
      let t = four (place && begins && soft) kinds (position_fits cut_previous.position) (finite time) rest in
      ap₂ (λ (s : ℕ) (k : Kind). object_of x y start s k)
      (itself sound largest8 16 (omega arith) (ltb-true (saturate8 sound) 16 (three place begins soft t.0).2)) (kind_itself repeats distance given node duration kind t.1)

  same_refusal : entry_refusal f cut_previous (saturate8 columns) cut_object ≡ entry_refusal f previous columns object
  unfolding entry_refusal
  same_refusal = rw (pattern_test, object_test) refl

  -- what passes the checks is itself
  accepted : entry_refusal f cut_previous (saturate8 columns) cut_object ≡ 0 → (cut_previous ≡ previous) × (saturate8 columns ≡ columns) × (cut_object ≡ object)
  unfolding entry_refusal
  accepted e =
      let p = passed (pattern_fits cut_previous (saturate8 columns)) Numbers.columns_or_previous _ (lit< tt) e in
      let s = passed (settings_fit f) Numbers.setting _ (lit< tt) p.1 in
      let t = passed (points_fit f) Numbers.break_or_point _ (lit< tt) s.1 in
      let o = passed (object_fits f cut_previous cut_object) Numbers.object 0 (lit< tt) t.1 in
      let n = pattern_cut p.0 in
      (n.0, n.1, object_itself o.0)

  -- the entry gives the same for a host's numbers and for what their fields hold of them
  module _ (r : Random) (allowance : ℕ) (buffer : List ℕ) where
    pub single_whole : single_object f cut_previous (saturate8 columns) cut_object r allowance buffer ≡ single_object f previous columns object r allowance buffer
    single_whole = go (eqb (entry_refusal f cut_previous (saturate8 columns) cut_object) 0) refl
      where
        go : (b : Bool) → eqb (entry_refusal f cut_previous (saturate8 columns) cut_object) 0 ≡ b
            → single_object f cut_previous (saturate8 columns) cut_object r allowance buffer ≡ single_object f previous columns object r allowance buffer
        go true e =
            let s = accepted (eqb-true (entry_refusal f cut_previous (saturate8 columns) cut_object) 0 e) in
            ap₂ (λ (v : PrevValues) (c : ℕ). single_object f v c cut_object r allowance buffer) s.0 s.1
            ∙ ap (λ (o : Object). single_object f previous columns o r allowance buffer) s.2
        go false e =
            let n = eqb-false (entry_refusal f cut_previous (saturate8 columns) cut_object) 0 e in
            single_checked f cut_previous (saturate8 columns) cut_object r allowance buffer n
            ∙ rw same_refusal (sym (single_checked f previous columns object r allowance buffer (λ z. n (same_refusal ∙ z))))
