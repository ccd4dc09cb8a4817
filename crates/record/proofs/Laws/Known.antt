-- A caller of `check_record` knows of an accepted record what `Known` says. Assumes nothing.
use Rattle.std.specs.Prelude.{◌≡◌, refl, List, Float, drop, Ok}
use Rattle.std.proofs.Common.{sym, ap, ◌∙◌, subst, arith}
use Prim.Native.Nat.{ℕ, zero, suc, ◌+◌, ◌*◌, ◌/◌, ◌%◌, ◌≤◌, ◌<◌}
use Rattle.model.specs.Song.{Song}
use Rattle.record.specs.declared.section.Section.{Section}
use Rattle.record.specs.declared.section.Section.TheVariants.{Breaks, TimingPoints, DifficultyPoints, EffectPoints}
use Rattle.record.specs.declared.header.Counts.{Counts}
use Rattle.record.specs.declared.Summary.{Summary}
use Rattle.record.specs.Layout as At
use Rattle.record.specs.Refusal.{f64_at, entries_refusal}
use Rattle.record.specs.Header.{counts_of}
use Rattle.record.specs.Section.{width_of, entry_refusal, no_time, section_refusal, timing_points, difficulty_points, effect_points}
use Rattle.record.specs.Object.{objects}
use Rattle.record.specs.Lookup.{Rising}
use Rattle.record.specs.Record.{places_of, song_of, Parsed, accepted, refused, parse, counts_in, summary_of, checked_of}
use Rattle.record.specs.Laws.Row.{then_none}
use Rattle.record.specs.Laws.Counts.{small_counts, near_places}
use Rattle.record.specs.Laws.Songs.{counts_in_law, summary_of_law}
use Rattle.record.specs.Laws.Parts.{timing_points_part, difficulty_points_part, effect_points_part, rising_part, objects_part}
use Rattle.record.specs.Laws.Accepted.{accepted_none, Parts, parts, first_object}
use Rattle.record.proofs.Laws.Ranges.{above, not_breaks_timing, not_breaks_difficulty, not_breaks_effect}
use Rattle.record.specs.Laws.Known.{PointsAt, Known}

-- ---- rising times

module _ (entry : ℕ → Float → ℕ) (w : ℕ) (key : ℕ → Float) where
  first_of : (p n : ℕ) (before : Float) → 0 < n → entries_refusal entry (λ q. q + w) key p before n ≡ 0 → entry p before ≡ 0
  unfolding entries_refusal
  first_of p zero before l h = absurd (omega arith)
  first_of p (suc n) before l h = (then_none _ _ h).0

  rest_of : (p n : ℕ) (before : Float) → entries_refusal entry (λ q. q + w) key p before (suc n) ≡ 0 → entries_refusal entry (λ q. q + w) key (p + w) (key p) n ≡ 0
  unfolding entries_refusal
  rest_of p n before h = (then_none _ _ h).1

  -- each entry but the first passes its own conditions, after the key of the one before it
  next_of_law : (i p n : ℕ) (before : Float) → i + 1 < n → entries_refusal entry (λ q. q + w) key p before n ≡ 0 → entry (p + w * (i + 1)) (key (p + w * i)) ≡ 0
  next_of_law i p zero before l h = absurd (omega arith)
  next_of_law zero p (suc n) before l h =
      let a : p + w * (0 + 1) ≡ p + w = omega arith in
      let b : p + w * 0 ≡ p = omega arith in
      rw (a, b) (first_of (p + w) n (key p) (omega arith) (rest_of p n before h))
  next_of_law (suc i) p (suc n) before l h =
      let a : p + w * (suc i + 1) ≡ p + w + w * (i + 1) = omega arith in
      let b : p + w * suc i ≡ p + w + w * i = omega arith in
      rw (a, b) (next_of_law i (p + w) n (key p) (omega arith) (rest_of p n before h))

pub accepted_rising : (k : Section) (s : List ℕ) (p n : ℕ) → (k ≡ Breaks → ⊥) → section_refusal k s p n ≡ 0 → Rising k s p n
unfolding Rising section_refusal
accepted_rising k s p n x h i l =
    above s k (p + width_of k * (i + 1)) (f64_at s (p + width_of k * i)) x (next_of_law (entry_refusal k s) (width_of k) (f64_at s) i p n no_time l h)

byte_of : (p n : ℕ) → p + 6 ≤ 8 * n → p / 8 < n
byte_of p n h = omega arith

objects_of : (s : List ℕ) (p n : ℕ) → objects s p n ≡ objects (drop (p / 8) s) (p % 8) n
objects_of s p n =
    let e : 8 * (p / 8) + p % 8 ≡ p = omega arith in
    rw (objects_part s (p / 8) (p % 8) n, e)

-- the timing points start at the first bit of a byte
byte_place : (n : Counts) (at p : ℕ) → at ≡ (places_of n).timing + p → at ≡ 8 * ((places_of n).timing / 8) + p
unfolding places_of
byte_place n at p e = omega arith

points_at : (s : List ℕ) → Parts s → PointsAt (drop ((places_of (counts_of s)).timing / 8) s) (song_of s) (counts_of s)
unfolding song_of places_of
points_at s h =
    let n = counts_of s in
    let at = places_of n in
    let k = at.timing / 8 in
    let t : at.timing ≡ 8 * k + 0 = byte_place n _ 0 (omega arith) in
    let d : at.difficulty ≡ 8 * k + At.difficulty_points n.timing = byte_place n _ _ (omega arith) in
    let f : at.effect ≡ 8 * k + At.effect_points n.timing n.difficulty = byte_place n _ _ (omega arith) in
    record {
      timing = ap (λ (p : ℕ). timing_points s p n.timing) t ∙ sym (timing_points_part s k 0 n.timing);
      difficulty = ap (λ (p : ℕ). difficulty_points s p n.difficulty) d ∙ sym (difficulty_points_part s k _ n.difficulty);
      effect = ap (λ (p : ℕ). effect_points s p n.effect) f ∙ sym (effect_points_part s k _ n.effect);
      timing_rises = rising_part s k TimingPoints 0 n.timing (subst (λ (p : ℕ). Rising TimingPoints s p n.timing) t (accepted_rising TimingPoints s _ _ not_breaks_timing h.timing));
      difficulty_rises = rising_part s k DifficultyPoints _ n.difficulty (subst (λ (p : ℕ). Rising DifficultyPoints s p n.difficulty) d (accepted_rising DifficultyPoints s _ _ not_breaks_difficulty h.difficulty));
      effect_rises = rising_part s k EffectPoints _ n.effect (subst (λ (p : ℕ). Rising EffectPoints s p n.effect) f (accepted_rising EffectPoints s _ _ not_breaks_effect h.effect));
    }

-- the timing points do not start after the objects
points_before : (n : Counts) (k : ℕ) → (places_of n).objects + 6 ≤ 8 * k → (places_of n).timing / 8 < k
unfolding places_of
points_before n k h = omega arith

known_of : (s : List ℕ) → parse s ≡ accepted (song_of s) → Parts s → Known s (summary_of (song_of s))
unfolding summary_of song_of counts_in
known_of s e h =
    rw (summary_of_law s)
    (record {
      parsed = e;
      summary = sym (summary_of_law s);
      keys = refl;
      settings = refl;
      first = refl;
      last = refl;
      long = refl;
      small = small_counts s;
      near = near_places (counts_of s) (small_counts s);
      number = ap (λ (n : Counts). n.objects) (sym (counts_in_law s));
      breaks = refl;
      points = points_at s h;
      objects = objects_of s (places_of (counts_of s)).objects (counts_of s).objects;
      points_part = λ l. points_before (counts_of s) _ (first_object s h l);
      objects_part = λ l. byte_of _ _ (first_object s h l);
    })

accepted_is : (p : Parsed) (m : Summary) → checked_of p ≡ Ok m → (song : Song) → p ≡ accepted song → m ≡ summary_of song
accepted_is (accepted other) m e song f = cc
accepted_is (refused n) m e song f = cc

some_song : (s : List ℕ) (p : Parsed) (m : Summary) → parse s ≡ p → checked_of p ≡ Ok m → Known s m
some_song s (refused n) m f e = absurd (let z : ◌≡◌ {A = ℕ} 0 1 = cc in omega arith)
some_song s (accepted song) m f e =
    let h = accepted_none s song f in
    let g : parse s ≡ accepted (song_of s) = f ∙ ap accepted h.1 in
    subst (Known s) (sym (accepted_is (accepted song) m e (song_of s) (ap accepted h.1))) (known_of s g (parts s h.0))

pub known : (s : List ℕ) (m : Summary) → checked_of (parse s) ≡ Ok m → Known s m
known s m e = some_song s (parse s) m refl e
