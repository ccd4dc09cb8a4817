-- An accepted record's song is in its ranges and orders (`Fit`). Assumes nothing.
use Rattle.std.specs.Prelude.{◌≡◌, Bool, true, false, not, ◌||◌, List, T, Float}
use Rattle.std.proofs.Math.Path.{refl, subst}
use Rattle.std.proofs.Common.{sym, ◌∙◌, arith}
use Prim.Native.Nat.{ℕ, zero, suc, ◌+◌, ◌≤◌}
use Rattle.std.specs.Float.{Format}
use Rattle.std.specs.Float.Ieee.{binary32, binary64, lt}
use Rattle.std.specs.Float.Ieee.Bits.{of_bits-fits}
use borrow.Author.Tests.{not-false, ltb-false}
use Rattle.model.specs.Limits.{Range, most_repeats, most_entries, most_breaks, setting_range, multiplier_range, time_range, beat_range, velocity_range, span_range, coordinate_range, distance_range}
use Rattle.bits.specs.Field.{bits}
use Rattle.bits.specs.Laws.Fields.{bits_lt}
use Rattle.floats.specs.Range.{within, float}
use Rattle.floats.specs.Laws.Ranges.{float_within}
use Rattle.model.specs.declared.TimingPoint.{TimingPoint}
use Rattle.model.specs.declared.DifficultyPoint.{DifficultyPoint}
use Rattle.model.specs.declared.EffectPoint.{EffectPoint}
use Rattle.model.specs.Song.{Song}
use Rattle.rules.specs.Each.{Each}
use Rattle.record.specs.declared.section.Section.{Section}
use Rattle.record.specs.declared.section.Section.TheVariants.{Breaks, TimingPoints, DifficultyPoints, EffectPoints}
use Rattle.record.specs.Layout as At
use Rattle.record.specs.Refusal.{field, out32, out64, field_refusal, fields_refusal, f32_at, f64_at, entries_refusal, entries}
use Rattle.record.specs.Header.{keys_of, settings_of, counts_of}
use Rattle.record.specs.Section.{entry_end, point_time, entry_refusal, no_time, section_refusal, read_break, read_timing_point, read_difficulty_point, read_effect_point, breaks, timing_points, difficulty_points, effect_points}
use Rattle.record.specs.Object.{node_bit, distance_by, node_by, slider_at, kind_by, distance_fields, slider_fields, kind_fields, start_at, read_object, object_end, object_refusal, zero_start, objects_refusal, objects}
use Rattle.record.specs.Record.{places_of, song_of, accepted, parse}
use Rattle.record.specs.Fit.{Bounded, FitTime, FitBreak, FitTiming, FitDifficulty, FitEffect, FitDistance, FitNode, FitKind, FitObject, RisesFrom, Rises, NoFallFrom, NoFall, FitSong}
use Rattle.record.specs.Laws.Row.{then_none, gives_none, or_none, fields_append}
use Rattle.record.specs.Laws.Counts.{small_counts}
use Rattle.record.specs.Laws.Entries.{length_entries}
use Rattle.record.specs.Laws.Accepted.{accepted_none, Parts, parts, header_parts}

-- ---- a float field

pattern : (f : Format) (range : Range) (b : ℕ) → within f range.low range.high b ≡ true → Bounded f range (float f b)
pattern f range b h = subst (Bounded f range) (sym (float_within f b range.low range.high h)) (record { exact = of_bits-fits f b; inside = subst T (sym h) tt })

module _ (s : List ℕ) where
  -- a field of 32 and of 64 bits, and one with a second condition
  field32 : (p n : ℕ) (range : Range) → field_refusal s (field p 32 (out32 s p range) (suc n)) ≡ 0 → Bounded binary32 range (f32_at s p)
  unfolding f32_at
  field32 p n range h = pattern binary32 range (bits s p 32) (not-false _ (gives_none _ n (then_none _ _ h).1))

  field64 : (p n : ℕ) (range : Range) → field_refusal s (field p 64 (out64 s p range) (suc n)) ≡ 0 → Bounded binary64 range (f64_at s p)
  unfolding f64_at
  field64 p n range h = pattern binary64 range (bits s p 64) (not-false _ (gives_none _ n (then_none _ _ h).1))

  field_two : (p n : ℕ) (range : Range) (b : Bool) → field_refusal s (field p 64 (out64 s p range || b) (suc n)) ≡ 0 → Bounded binary64 range (f64_at s p) × (b ≡ false)
  unfolding f64_at
  field_two p n range b h =
      let e = or_none _ _ (gives_none _ n (then_none _ _ h).1) in
      (pattern binary64 range (bits s p 64) (not-false _ e.0), e.1)

  -- ---- settings and points

  rising_field : (p : ℕ) (before : Float) → field_refusal s (point_time s p before) ≡ 0 → FitTime (f64_at s p) × (lt before (f64_at s p) ≡ true)
  rising_field p before h = let t = field_two p 4 time_range (not (lt before (f64_at s p))) h in (t.0, not-false _ t.1)

  break_fit : (p : ℕ) (before : Float) → entry_refusal Breaks s p before ≡ 0 → FitBreak (read_break s p)
  unfolding entry_refusal fields_refusal read_break
  break_fit p before h =
      let a = then_none _ _ h in
      let b = field_two (p + At.second) 4 time_range (lt (f64_at s (p + At.second)) (f64_at s p)) (then_none _ _ a.1).0 in
      record { start = field64 p 4 time_range a.0; end = b.0; order = b.1 }

  timing_fit : (p : ℕ) (before : Float) → entry_refusal TimingPoints s p before ≡ 0 → FitTiming (read_timing_point s p)
  unfolding entry_refusal fields_refusal read_timing_point
  timing_fit p before h =
      let a = then_none _ _ h in
      record { time = (rising_field p before a.0).0; beat = field64 (p + At.second) 4 beat_range (then_none _ _ a.1).0 }

  difficulty_fit : (p : ℕ) (before : Float) → entry_refusal DifficultyPoints s p before ≡ 0 → FitDifficulty (read_difficulty_point s p)
  unfolding entry_refusal fields_refusal read_difficulty_point
  difficulty_fit p before h =
      let a = then_none _ _ h in
      record { time = (rising_field p before a.0).0; velocity = field64 (p + At.second) 4 velocity_range (then_none _ _ a.1).0 }

  effect_fit : (p : ℕ) (before : Float) → entry_refusal EffectPoints s p before ≡ 0 → FitEffect (read_effect_point s p)
  unfolding entry_refusal fields_refusal read_effect_point
  effect_fit p before h = (rising_field p before (then_none _ _ h).0).0

  -- a point's time is above the one before
  pub above : (k : Section) (p : ℕ) (before : Float) → (k ≡ Breaks → ⊥) → entry_refusal k s p before ≡ 0 → lt before (f64_at s p) ≡ true
  unfolding entry_refusal fields_refusal
  above Breaks p before x h = absurd (x refl)
  above TimingPoints p before x h = (rising_field p before (then_none _ _ h).0).1
  above DifficultyPoints p before x h = (rising_field p before (then_none _ _ h).0).1
  above EffectPoints p before x h = (rising_field p before (then_none _ _ h).0).1

  -- ---- an object

  distance_fit : (p b : ℕ) → fields_refusal s (distance_fields s p b) ≡ 0 → FitDistance (distance_by s p b)
  unfolding fields_refusal distance_by
  distance_fit p zero h = tt
  distance_fit p (suc b) h = field64 p 5 distance_range (then_none _ _ h).0

  node_fit : (p b : ℕ) → FitNode (node_by s p b)
  unfolding node_by
  node_fit p zero = tt
  node_fit p (suc b) = bits_lt s p 4

  slider_fit : (q : ℕ) → fields_refusal s (slider_fields s q) ≡ 0 → FitKind (slider_at s q)
  unfolding fields_refusal slider_at
  slider_fit q h =
      let r = then_none _ _ h in
      let few = ltb-false most_repeats (bits s q At.repeats_width) (gives_none _ 5 (then_none _ _ r.0).1) in
      let d = then_none _ _ (sym (fields_append s (distance_fields s (q + At.distance) (bits s (q + At.is_given) 1)) _) ∙ (then_none _ _ r.1).1) in
      (few, distance_fit (q + At.distance) (bits s (q + At.is_given) 1) d.0, node_fit (node_bit s q + 1) (bits s (node_bit s q) 1))

  kind_fit : (q k : ℕ) → fields_refusal s (kind_fields s q k) ≡ 0 → FitKind (kind_by s q k)
  unfolding fields_refusal kind_by
  kind_fit q zero h = tt
  kind_fit q (suc zero) h = slider_fit q h
  kind_fit q (suc (suc zero)) h = field64 q 5 span_range (then_none _ _ h).0
  kind_fit q (suc (suc (suc k))) h = field64 q 5 span_range (then_none _ _ h).0

  object_fit : (p : ℕ) (before : Float) → object_refusal s p before ≡ 0 → FitObject (read_object s p) × (lt (start_at s p) before ≡ false)
  unfolding object_refusal fields_refusal read_object start_at
  object_fit p before h =
      let a = then_none _ _ (then_none _ _ (then_none _ _ h).1).1 in
      let b = then_none _ _ a.1 in
      let d = then_none _ _ b.1 in
      let e = field_two (p + At.start) 5 span_range (lt (start_at s p) before) d.0 in (
        record {
          x = field32 (p + At.x) 5 coordinate_range a.0;
          y = field32 (p + At.y) 5 coordinate_range b.0;
          start = e.0;
          sound = bits_lt s (p + 2) 4;
          kind = kind_fit (p + At.added) (bits s p 2) d.1;
        },
        e.1,
      )

-- ---- lists

module _ {A : Type 0} (entry : ℕ → Float → ℕ) (next : ℕ → ℕ) (key : ℕ → Float) (value : ℕ → A) where
  -- what holds of an entry that is not refused, after the key of the one before, holds of each
  each_of : (P : A → Type 0) → ((p : ℕ) (before : Float) → entry p before ≡ 0 → P (value p))
      → (p : ℕ) (before : Float) (n : ℕ) → entries_refusal entry next key p before n ≡ 0 → Each P (entries value next p n)
  unfolding entries_refusal entries
  each_of P f p before zero h = tt
  each_of P f p before (suc n) h =
      let a = then_none _ _ h in
      (f p before a.0, each_of P f (next p) (key p) n a.1)

  module _ (time : A → Float) (same : (p : ℕ) → time (value p) ≡ key p) (rising : (p : ℕ) (before : Float) → entry p before ≡ 0 → lt before (key p) ≡ true) where
    rises_from : (p : ℕ) (before : Float) (n : ℕ) → entries_refusal entry next key p before n ≡ 0 → RisesFrom time before (entries value next p n)
    unfolding entries_refusal entries
    rises_from p before zero h = tt
    rises_from p before (suc n) h =
        let a = then_none _ _ h in (
          subst (λ (x : Float). lt before x ≡ true) (sym (same p)) (rising p before a.0),
          subst (λ (x : Float). RisesFrom time x (entries value next (next p) n)) (sym (same p)) (rises_from (next p) (key p) n a.1),
        )

    rises : (p : ℕ) (before : Float) (n : ℕ) → entries_refusal entry next key p before n ≡ 0 → Rises time (entries value next p n)
    unfolding entries_refusal entries
    rises p before zero h = tt
    rises p before (suc n) h =
        subst (λ (x : Float). RisesFrom time x (entries value next (next p) n)) (sym (same p)) (rises_from (next p) (key p) n (then_none _ _ h).1)

module _ (s : List ℕ) where
  start_same : (p : ℕ) → (read_object s p).start ≡ start_at s p
  unfolding read_object
  start_same p = refl

  no_fall_from : (p : ℕ) (before : Float) (n : ℕ) → entries_refusal (object_refusal s) (object_end s) (start_at s) p before n ≡ 0
      → NoFallFrom before (entries (read_object s) (object_end s) p n)
  unfolding entries_refusal entries
  no_fall_from p before zero h = tt
  no_fall_from p before (suc n) h =
      let a = then_none _ _ h in (
        subst (λ (x : Float). lt x before ≡ false) (sym (start_same p)) (object_fit s p before a.0).1,
        subst (λ (x : Float). NoFallFrom x (entries (read_object s) (object_end s) (object_end s p) n)) (sym (start_same p)) (no_fall_from (object_end s p) (start_at s p) n a.1),
      )

  no_fall : (p : ℕ) (before : Float) (n : ℕ) → entries_refusal (object_refusal s) (object_end s) (start_at s) p before n ≡ 0
      → NoFall (entries (read_object s) (object_end s) p n)
  unfolding entries_refusal entries
  no_fall p before zero h = tt
  no_fall p before (suc n) h =
      subst (λ (x : Float). NoFallFrom x (entries (read_object s) (object_end s) (object_end s p) n)) (sym (start_same p)) (no_fall_from (object_end s p) (start_at s p) n (then_none _ _ h).1)

-- ---- the song

pub not_breaks_timing : TimingPoints ≡ Breaks → ⊥
not_breaks_timing e = let z : ◌≡◌ {A = ℕ} 0 1 = cc in omega arith

pub not_breaks_difficulty : DifficultyPoints ≡ Breaks → ⊥
not_breaks_difficulty e = let z : ◌≡◌ {A = ℕ} 0 1 = cc in omega arith

pub not_breaks_effect : EffectPoints ≡ Breaks → ⊥
not_breaks_effect e = let z : ◌≡◌ {A = ℕ} 0 1 = cc in omega arith

less : (n m k : ℕ) → n ≡ m → m ≤ k → n ≤ k
less n m k e h = omega arith

timing_up : (s : List ℕ) → Parts s → Rises (λ (p : TimingPoint). p.time) (timing_points s (places_of (counts_of s)).timing (counts_of s).timing)
unfolding section_refusal timing_points read_timing_point
timing_up s h =
    rises (entry_refusal TimingPoints s) (entry_end TimingPoints) (f64_at s) (read_timing_point s) (λ (p : TimingPoint). p.time) (λ p. refl)
    (λ p before e. above s TimingPoints p before not_breaks_timing e) (places_of (counts_of s)).timing no_time (counts_of s).timing h.timing

difficulty_up : (s : List ℕ) → Parts s → Rises (λ (p : DifficultyPoint). p.time) (difficulty_points s (places_of (counts_of s)).difficulty (counts_of s).difficulty)
unfolding section_refusal difficulty_points read_difficulty_point
difficulty_up s h =
    rises (entry_refusal DifficultyPoints s) (entry_end DifficultyPoints) (f64_at s) (read_difficulty_point s) (λ (p : DifficultyPoint). p.time) (λ p. refl)
    (λ p before e. above s DifficultyPoints p before not_breaks_difficulty e) (places_of (counts_of s)).difficulty no_time (counts_of s).difficulty h.difficulty

effect_up : (s : List ℕ) → Parts s → Rises (λ (p : EffectPoint). p.time) (effect_points s (places_of (counts_of s)).effect (counts_of s).effect)
unfolding section_refusal effect_points read_effect_point
effect_up s h =
    rises (entry_refusal EffectPoints s) (entry_end EffectPoints) (f64_at s) (read_effect_point s) (λ (p : EffectPoint). p.time) (λ p. refl)
    (λ p before e. above s EffectPoints p before not_breaks_effect e) (places_of (counts_of s)).effect no_time (counts_of s).effect h.effect

song_fits : (s : List ℕ) → Parts s → FitSong (song_of s)
unfolding song_of keys_of settings_of section_refusal objects_refusal breaks timing_points difficulty_points effect_points objects
song_fits s h =
    let head = header_parts s h.header in
    let n = small_counts s in
    record {
      keys = head.keys;
      settings =
          record {
            hp = field32 s At.hp 3 setting_range head.hp;
            cs = field32 s At.cs 3 setting_range head.cs;
            od = field32 s At.od 3 setting_range head.od;
            ar = field32 s At.ar 3 setting_range head.ar;
            multiplier = field64 s At.multiplier 3 multiplier_range head.multiplier;
          };
      breaks = each_of (entry_refusal Breaks s) (entry_end Breaks) (f64_at s) (read_break s) FitBreak (break_fit s) At.breaks no_time (counts_of s).breaks h.breaks;
      timing = each_of (entry_refusal TimingPoints s) (entry_end TimingPoints) (f64_at s) (read_timing_point s) FitTiming (timing_fit s) (places_of (counts_of s)).timing no_time (counts_of s).timing h.timing;
      difficulty = each_of (entry_refusal DifficultyPoints s) (entry_end DifficultyPoints) (f64_at s) (read_difficulty_point s) FitDifficulty (difficulty_fit s) (places_of (counts_of s)).difficulty no_time (counts_of s).difficulty h.difficulty;
      effect = each_of (entry_refusal EffectPoints s) (entry_end EffectPoints) (f64_at s) (read_effect_point s) FitEffect (effect_fit s) (places_of (counts_of s)).effect no_time (counts_of s).effect h.effect;
      objects = each_of (object_refusal s) (object_end s) (start_at s) (read_object s) FitObject (λ p before e. (object_fit s p before e).0) (places_of (counts_of s)).objects zero_start (counts_of s).objects h.objects;
      timing_rises = timing_up s h;
      difficulty_rises = difficulty_up s h;
      effect_rises = effect_up s h;
      starts = no_fall s (places_of (counts_of s)).objects zero_start (counts_of s).objects h.objects;
      few_breaks = less _ _ most_breaks (length_entries (read_break s) (entry_end Breaks) At.breaks (counts_of s).breaks) n.breaks_le;
      few_timing = less _ _ most_entries (length_entries (read_timing_point s) (entry_end TimingPoints) (places_of (counts_of s)).timing (counts_of s).timing) n.timing_le;
      few_difficulty = less _ _ most_entries (length_entries (read_difficulty_point s) (entry_end DifficultyPoints) (places_of (counts_of s)).difficulty (counts_of s).difficulty) n.difficulty_le;
      few_effect = less _ _ most_entries (length_entries (read_effect_point s) (entry_end EffectPoints) (places_of (counts_of s)).effect (counts_of s).effect) n.effect_le;
      few_objects = less _ _ most_entries (length_entries (read_object s) (object_end s) (places_of (counts_of s)).objects (counts_of s).objects) n.objects_le;
    }

-- an accepted song is in its ranges and orders
pub fit_song : (s : List ℕ) (song : Song) → parse s ≡ accepted song → FitSong song
fit_song s song e =
    let h = accepted_none s song e in
    subst FitSong (sym h.1) (song_fits s (parts s h.0))
