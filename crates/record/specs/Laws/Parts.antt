-- The points and the objects of a part of the bytes: what starts at bit p of the bytes from byte k on starts at bit 8 * k + p of all the bytes. Assumes nothing.
use Rattle.std.specs.Prelude.{◌≡◌, List, ◌∷◌, drop}
use Rattle.std.proofs.Math.Path.{refl}
use Rattle.std.proofs.Common.{ap}
use Prim.Native.Nat.{ℕ, zero, suc, ◌+◌, ◌*◌}
use Rattle.std.proofs.Math.Nat.{add_assoc}
use Rattle.bits.specs.Laws.Fields.{bits_part}
use Rattle.record.specs.Refusal.{f32_at, f64_at, entries}
use Rattle.record.specs.declared.section.Section.{Section}
use Rattle.record.specs.Section.{width_of, read_timing_point, read_difficulty_point, read_effect_point, timing_points, difficulty_points, effect_points}
use Rattle.record.specs.Lookup.{Rising}
use Rattle.record.specs.Object.{node_bit, slider_end, distance_by, node_by, slider_at, kind_by, kind_end, start_at, read_object, object_end, objects}

module _ (s : List ℕ) (k : ℕ) where
  f32_part : (p : ℕ) → f32_at (drop k s) p ≡ f32_at s (8 * k + p)
  unfolding f32_at
  f32_part p = simp bits_part

  f64_part : (p : ℕ) → f64_at (drop k s) p ≡ f64_at s (8 * k + p)
  unfolding f64_at
  f64_part p = simp bits_part

  -- n entries of one width
  entries_part : {A : Type 0} (read : List ℕ → ℕ → A) (width : ℕ) → ((p : ℕ) → read (drop k s) p ≡ read s (8 * k + p))
      → (p n : ℕ) → entries (read (drop k s)) (λ q. q + width) p n ≡ entries (read s) (λ q. q + width) (8 * k + p) n
  unfolding entries
  entries_part read width h p zero = refl
  entries_part read width h p (suc n) = rw (h p, add_assoc) (ap (λ l. read s (8 * k + p) ∷ l) (entries_part read width h (p + width) n))

  timing_part : (p : ℕ) → read_timing_point (drop k s) p ≡ read_timing_point s (8 * k + p)
  unfolding read_timing_point
  timing_part p = simp (f64_part, add_assoc)

  difficulty_part : (p : ℕ) → read_difficulty_point (drop k s) p ≡ read_difficulty_point s (8 * k + p)
  unfolding read_difficulty_point
  difficulty_part p = simp (f64_part, add_assoc)

  effect_part : (p : ℕ) → read_effect_point (drop k s) p ≡ read_effect_point s (8 * k + p)
  unfolding read_effect_point
  effect_part p = simp (bits_part, f64_part, add_assoc)

  pub timing_points_part : (p n : ℕ) → timing_points (drop k s) p n ≡ timing_points s (8 * k + p) n
  unfolding timing_points
  timing_points_part p n = entries_part read_timing_point _ timing_part p n

  pub difficulty_points_part : (p n : ℕ) → difficulty_points (drop k s) p n ≡ difficulty_points s (8 * k + p) n
  unfolding difficulty_points
  difficulty_points_part p n = entries_part read_difficulty_point _ difficulty_part p n

  pub effect_points_part : (p n : ℕ) → effect_points (drop k s) p n ≡ effect_points s (8 * k + p) n
  unfolding effect_points
  effect_points_part p n = entries_part read_effect_point _ effect_part p n

  pub rising_part : (section : Section) (p n : ℕ) → Rising section s (8 * k + p) n → Rising section (drop k s) p n
  unfolding Rising
  rising_part section p n h i l =
      let here = p + width_of section * i in
      let next = p + width_of section * (i + 1) in
      rw (f64_part here, f64_part next, ← add_assoc (8 * k) p (width_of section * i), ← add_assoc (8 * k) p (width_of section * (i + 1))) (h i l)

  node_part : (q : ℕ) → 8 * k + node_bit (drop k s) q ≡ node_bit s (8 * k + q)
  unfolding node_bit
  node_part q = simp (bits_part, add_assoc)

  end_part_law : (q : ℕ) → 8 * k + slider_end (drop k s) q ≡ slider_end s (8 * k + q)
  unfolding slider_end
  end_part_law q = simp (bits_part, add_assoc)

  distance_part : (p b : ℕ) → distance_by (drop k s) p b ≡ distance_by s (8 * k + p) b
  unfolding distance_by
  distance_part p zero = refl
  distance_part p (suc b) = simp f64_part

  sound_part : (p b : ℕ) → node_by (drop k s) p b ≡ node_by s (8 * k + p) b
  unfolding node_by
  sound_part p zero = refl
  sound_part p (suc b) = simp bits_part

  slider_part : (q : ℕ) → slider_at (drop k s) q ≡ slider_at s (8 * k + q)
  unfolding slider_at
  slider_part q = simp (bits_part, distance_part, sound_part, add_assoc)

  kind_part : (q n : ℕ) → kind_by (drop k s) q n ≡ kind_by s (8 * k + q) n
  unfolding kind_by
  kind_part q zero = refl
  kind_part q (suc zero) = slider_part q
  kind_part q (suc (suc zero)) = simp f64_part
  kind_part q (suc (suc (suc n))) = simp f64_part

  kind_end_part : (q n : ℕ) → 8 * k + kind_end (drop k s) q n ≡ kind_end s (8 * k + q) n
  unfolding kind_end
  kind_end_part q zero = refl
  kind_end_part q (suc zero) = end_part_law q
  kind_end_part q (suc (suc n)) = simp add_assoc

  pub object_part : (p : ℕ) → read_object (drop k s) p ≡ read_object s (8 * k + p)
  unfolding read_object start_at
  object_part p = simp (bits_part, f32_part, f64_part, kind_part, add_assoc)

  pub object_end_part : (p : ℕ) → 8 * k + object_end (drop k s) p ≡ object_end s (8 * k + p)
  unfolding object_end
  object_end_part p = simp (bits_part, kind_end_part, add_assoc)

  pub objects_part : (p n : ℕ) → objects (drop k s) p n ≡ objects s (8 * k + p) n
  unfolding objects entries
  objects_part p zero = refl
  objects_part p (suc n) = rw (object_part p, ← object_end_part p) (ap (λ l. read_object s (8 * k + p) ∷ l) (objects_part (object_end (drop k s) p) n))
