-- Values that no check refuses are those that the generators take. Assumes nothing.
use Rattle.std.specs.Prelude.{◌≡◌, refl, ℕ, ◌^◌, ◌≤◌, ◌<◌, Bool, true, false, not, ◌&&◌, T, leb, ltb, if◌then◌else◌}
use Rattle.std.proofs.Common.{sym, subst, arith, leb-true, lit<, lit≤}
use Rattle.std.specs.Float.{binary64}
use Rattle.std.specs.Float.Ieee.Back.{round_whole}
use Rattle.std.specs.Float.Ieee.Scale.{finite}
use Rattle.model.specs.Limits.{most_repeats, latest_start, span_range}
use Rattle.floats.specs.Laws.Values.{sized}
use Rattle.floats.specs.Laws.Spans.{up_to}
use Rattle.model.specs.declared.Kind.{Kind}
use Rattle.model.specs.declared.Kind.TheVariants.{Circle, Slider, Spinner, Hold}
use Rattle.model.specs.declared.Object.{Object}
use Rattle.mania.specs.declared.Facts.{Facts}
use Rattle.mania.specs.declared.PrevValues.{PrevValues}
use Rattle.mania.specs.Range.{FewRepeats, InRange}
use Rattle.mania.specs.Laws.Tests.{two, three, four}
use Rattle.mania.specs.Laws.Singles.{pattern_fits_law}
use Rattle.rules.specs.Numbers as Numbers
use Rattle.mania.specs.Single.{inside, pattern_fits, settings_fit, points_fit, position_fits, distance_fits, node_fits, kind_fits, object_fits, entry_refusal}

-- a row of checks
passed : (b : Bool) (n r : ℕ) → 0 < n → (if not b then n else r) ≡ 0 → (b ≡ true) × (r ≡ 0)
passed true n r h e = (refl, e)
passed false n r h e = absurd (omega arith)

-- ---- the checks, one by one

few_repeats : (k : Kind) → kind_fits k ≡ true → FewRepeats k
unfolding kind_fits
few_repeats Circle e = tt
few_repeats (Slider repeats distance sound) e = leb-true repeats most_repeats (three (leb repeats most_repeats) (distance_fits distance) (node_fits sound) e).0
few_repeats (Spinner d) e = tt
few_repeats (Hold d) e = tt

object_in_law : (f : Facts) (v : PrevValues) (o : Object) → object_fits f v o ≡ true → InRange o
unfolding object_fits
object_in_law f v o e =
    let place = position_fits o.position in
    let start = inside span_range o.start in
    let sound = ltb o.sound 16 in
    let rest = (two (place && start && sound && kind_fits o.kind && position_fits v.position && finite v.time) (finite f.density) e).0 in
    let t = four (place && start && sound) (kind_fits o.kind) (position_fits v.position) (finite v.time) rest in
    record {
      start =
          up_to latest_start span_range.low span_range.high o.start (sized span_range.low 0 1 (round_whole binary64 false 0 (lit≤ tt))) (round_whole binary64 false latest_start (lit≤ tt))
          (subst T (sym (three place start sound t.0).1) tt);
      repeats = few_repeats o.kind t.1;
    }

-- ---- all of them

-- the columns, the previous pattern on them, and the object's range
pub record Checked (v : PrevValues) (columns : ℕ) (o : Object) : Type 0 where
  pub low : 1 ≤ columns
  pub high : columns ≤ 9
  pub mask : v.mask < 2 ^ columns
  pub last : v.last < columns
  pub range : InRange o

pub checked : (f : Facts) (v : PrevValues) (columns : ℕ) (o : Object) → entry_refusal f v columns o ≡ 0 → Checked v columns o
unfolding entry_refusal
checked f v columns o e =
    let p = passed (pattern_fits v columns) Numbers.columns_or_previous _ (lit< tt) e in
    let s = passed (settings_fit f) Numbers.setting _ (lit< tt) p.1 in
    let t = passed (points_fit f) Numbers.break_or_point _ (lit< tt) s.1 in
    let k = pattern_fits_law v columns p.0 in
    record { low = k.some; high = k.deck; mask = k.mask; last = k.last; range = object_in_law f v o (passed (object_fits f v o) Numbers.object 0 (lit< tt) t.1).0 }
