-- The notes of a circle are on columns of their own, and P holds of each where it holds of a circle at the start on each column. Assumes nothing.
use Rattle.std.specs.Prelude.{if◌then◌else◌}
use mathlib.Core.Path.{◌≡◌, refl, sym, ◌∙◌, subst}
use mathlib.Core.Logic.{◌⊎◌, inl, inr, ⊎_elim}
use Prim.Native.Nat.{ℕ, zero, suc, ◌+◌, ◌-◌, ◌/◌, ◌%◌, ◌^◌, ◌≤◌, ◌<◌}
use native.Mathlib.Omega.{arith}
use mathlib.Core.Bool.{Bool, true, false, not, ◌&&◌}
use mathlib.Core.List.{List, [], ◌∷◌, ◌++◌}
use lib.Dec.{eqb, ltb}
use lib.Bits.{bit_or}
use borrow.Author.Tests.{eqb-false, ltb-true}
use Rattle.random.specs.Generator.{unit}
use Rattle.rules.specs.Laws.Each.{each_map}
use Rattle.chart.specs.Lanes.{extent_of, Apart}
use Rattle.mania.specs.declared.Note.{Note}
use Rattle.mania.specs.declared.HitObjectPatternGenerator.{HitObjectPatternGenerator}
use Rattle.model.specs.Sound.{finish, clap, has_flag}
use Rattle.mania.specs.PatternType.{force_stack, force_not_stack, keep_single, mirror, reverse, stair, reverse_stair, contains}
use Rattle.mania.specs.Made.{circle}
use Rattle.mania.specs.Pattern.{Pattern, free, empty, put}
use Rattle.mania.specs.PatternGenerator.{random_start}
use Rattle.mania.specs.HitObject
use Rattle.mania.specs.Demand.{extent, Each, EveryTwo, Lanes}
use Rattle.mania.proofs.Masks.{bit, or_left, or_own, or_free_left}
use Rattle.mania.proofs.Makes.{Makes, giving, seq, less, by, valued, added, each_snoc, two_snoc, two_map}
use Rattle.mania.specs.Laws.Tests.{and_l}
use Rattle.mania.proofs.Columns.{between_ge, next_ge, start_le, start_small, find_draw, find_any, column_makes, within, counted}

abbrev pub Differ : Note → Note → Type 0
Differ n m = n.column ≡ m.column → ⊥

-- all differ, and P holds of each
abbrev Distinct : (Note → Type 0) → Pattern Note → Type 0
Distinct P p = EveryTwo Differ p.notes × Each P p.notes

distinct_snoc : (P : Note → Type 0) (ns : List Note) (x : Note) → EveryTwo Differ ns × Each P ns → P x → Each (λ n. Differ n x) ns
    → EveryTwo Differ (ns ++ x ∷ []) × Each P (ns ++ x ∷ [])
distinct_snoc P ns x h f d = (two_snoc Differ ns x h.0 d, each_snoc P ns x h.1 f)

-- ---- notes off the pattern so far

-- the mask has the notes' columns, none is below the first column, and all differ
record Good (P : Note → Type 0) (columns : ℕ) (p : Pattern Note) : Type 0 where
  held : Each (λ n. (bit p.mask n.column ≡ 1) × (random_start columns ≤ n.column)) p.notes
  two : Distinct P p

good_empty : (P : Note → Type 0) (columns : ℕ) → Good P columns empty
unfolding empty
good_empty P columns = record { held = tt; two = (tt, tt) }

clash : (mask a b : ℕ) → bit mask a ≡ 1 → bit mask b ≡ 0 → a ≡ b → ⊥
clash mask a b h g e = let z : bit mask b ≡ 1 = subst (λ (c : ℕ). bit mask c ≡ 1) e h in omega arith

module _ (g : HitObjectPatternGenerator) (P : Note → Type 0) (fine : (c : ℕ) → c < g.columns → P (circle c g.start)) where
  abbrev T : ℕ
  T = g.columns

  good_put : (c : ℕ) → c < T → (p : Pattern Note) → Good P T p → bit p.mask c ≡ 0 → random_start T ≤ c → Good P T (put (circle c g.start) c p)
  unfolding put circle
  good_put c i p h f l =
      record {
        held = each_snoc _ p.notes _ (each_map _ _ (λ n k. (or_left p.mask (2 ^ c) n.column k.0, k.1)) p.notes h.held) (or_own p.mask c, l);
        two = distinct_snoc P p.notes _ h.two (fine c i) (each_map _ _ (λ n k. clash p.mask n.column c k.0 f) p.notes h.held);
      }

  random_good : (barred n c : ℕ) (p : Pattern Note) → random_start T ≤ c → Good P T p → Makes (Good P T) (HitObject.add_random g barred n c p)
  unfolding HitObject.add_random HitObject.add_note
  random_good barred zero c p l h = giving h
  random_good barred (suc n) c p l h =
      seq (find_any (λ d. random_start T ≤ d) T (random_start T) T (bit_or p.mask barred) (λ v k. between_ge (random_start T) T v) (next_ge T) (HitObject.next_of g) c l)
      (λ d k. seq (added T (circle d g.start) d p (λ i. good_put d i p h (or_free_left p.mask barred d k.0) k.1))
      (λ q i. random_good barred n d q k.1 i))

  notes_good : (n : ℕ) → Makes (Good P T) (HitObject.generate_random_notes g n)
  unfolding HitObject.generate_random_notes
  notes_good n =
      by (contains g.flags force_not_stack) _ _
      (λ e. random_good _ _ _ _ (start_le g.x T) (good_empty P T))
      (λ e. random_good _ _ _ _ (start_le g.x T) (good_empty P T))

  -- ---- the special column

  -- where column 0 is not the first of the deck, no note is there
  abbrev Clear : Pattern Note → Type 0
  Clear p = (0 < random_start T → Each (λ n. n.column ≡ 0 → ⊥) p.notes) × Distinct P p

  good_clear : (p : Pattern Note) → Good P T p → Clear p
  good_clear p h = (λ z. each_map _ _ (λ n k e. above n.column z k.1 e) p.notes h.held, h.two)
    where
      above : (c : ℕ) → 0 < random_start T → random_start T ≤ c → c ≡ 0 → ⊥
      above c z l e = omega arith

  special_two : (p : Pattern Note) → Clear p → Makes (Distinct P) (HitObject.add_special g p)
  unfolding HitObject.add_special HitObject.add_note put circle
  special_two p h =
      by (ltb 0 (random_start T) && (has_flag g.sound clap && has_flag g.sound finish)) _ _
      (λ e. added T (circle 0 g.start) 0 p
      (λ i. distinct_snoc P p.notes _ h.1 (fine 0 i) (h.0 (ltb-true 0 (random_start T) (and_l (ltb 0 (random_start T)) _ e)))))
      (λ e. giving h.1)

  pattern_two : (c : HitObject.Chances) → Makes (Distinct P) (HitObject.generate_random_pattern g c)
  unfolding HitObject.generate_random_pattern HitObject.count_of
  pattern_two c = seq (counted _ _ _ _ _) (λ n u. seq (notes_good n) (λ p h. special_two p (good_clear p h)))

  -- ---- the columns of the previous pattern

  module _ (to : ℕ → ℕ) (apart : (j i : ℕ) → j < i → i < T → to j ≡ to i → ⊥) where
    abbrev Before : ℕ → Pattern Note → Type 0
    Before i p = Each (λ n. (j : ℕ) × (j < i) × (n.column ≡ to j)) p.notes × Distinct P p

    later : (i : ℕ) (p : Pattern Note) → Before i p → Before (suc i) p
    later i p h = (each_map _ _ (λ n k. (k.0, more k.0 k.1, k.2)) p.notes h.0, h.1)
      where
        more : (j : ℕ) → j < i → j < suc i
        more j l = omega arith

    each_two : (n i : ℕ) (p : Pattern Note) → i + n ≤ T → Before i p → Makes (Distinct P) (HitObject.add_each g to n i p)
    unfolding HitObject.add_each HitObject.add_one HitObject.add_note put circle
    each_two zero i p l h = giving h.1
    each_two (suc n) i p l h =
        seq {P = Before (suc i)}
        (by (free g.mask i) _ _ (λ e. giving (later i p h))
        (λ e. added T (circle (to i) g.start) (to i) p (λ on. (
          each_snoc _ p.notes _ (later i p h).0 (i, own i, refl),
          distinct_snoc P p.notes _ h.1 (fine (to i) on) (each_map _ _ (λ m k e. apart k.0 i k.1 (inside i l) (sym k.2 ∙ e)) p.notes h.0),
        ))))
        (λ q k. each_two n (suc i) q (rest i l) k)
      where
        own : (i : ℕ) → i < suc i
        own i = omega arith

        inside : (i : ℕ) → i + suc n ≤ T → i < T
        inside i l = omega arith

        rest : (i : ℕ) → i + suc n ≤ T → suc i + n ≤ T
        rest i l = omega arith

  whole : (low : ℕ) → low ≤ T → low + (T - low) ≤ T
  whole low h = omega arith

  start_in_law : 1 ≤ T → random_start T ≤ T
  unfolding random_start
  start_in_law h = go (eqb T 8)
    where
      go : (b : Bool) → (if b then 1 else 0) ≤ T
      go true = omega arith
      go false = omega arith

  reversed_two : 1 ≤ T → Makes (Distinct P) (HitObject.reversed g)
  unfolding HitObject.reversed HitObject.image empty
  reversed_two t =
      each_two (HitObject.image T) (λ j i l k e. turned (random_start T) T j i l k e) (T - random_start T) (random_start T) empty
      (whole (random_start T) (start_in_law t)) (tt, (tt, tt))
    where
      turned : (low n j i : ℕ) → j < i → i < n → low + n - j - 1 ≡ low + n - i - 1 → ⊥
      turned low n j i l k e = omega arith

  stacked_two : 1 ≤ T → Makes (Distinct P) (HitObject.stacked g)
  unfolding HitObject.stacked empty
  stacked_two t =
      each_two (λ i. i) (λ j i l k e. unequal j i l e) (T - random_start T) (random_start T) empty (whole (random_start T) (start_in_law t)) (tt, (tt, tt))
    where
      unequal : (j i : ℕ) → j < i → j ≡ i → ⊥
      unequal j i l e = omega arith

  single_two : (c : ℕ) → Makes (Distinct P) (HitObject.add_note g c empty)
  unfolding HitObject.add_note put empty
  single_two c = added T (circle c g.start) c empty (λ i. ((tt, tt), (fine c i, tt)))

  -- ---- mirrored

  abbrev Half : ℕ
  Half = T / 2

  abbrev image : ℕ → ℕ
  image = HitObject.image T

  -- each note is at a column of the left half that the mask has, or at the image of one
  abbrev Paired : Pattern Note → Note → Type 0
  Paired p n = (d : ℕ) × (random_start T ≤ d) × (d < Half) × (bit p.mask d ≡ 1) × ((n.column ≡ d) ⊎ (n.column ≡ image d))

  abbrev Pairs : Pattern Note → Type 0
  Pairs p = Each (Paired p) p.notes × Distinct P p

  -- two columns of the left half, and their images
  left_left : (c d e : ℕ) (m : ℕ) → bit m d ≡ 1 → bit m e ≡ 0 → c ≡ d → c ≡ e → ⊥
  left_left c d e m h k i j = clash m d e h k (sym i ∙ j)

  image_left : (low n d e c : ℕ) → d < n / 2 → e < n / 2 → c ≡ low + n - d - 1 → c ≡ e → ⊥
  image_left low n d e c h k i j = omega arith

  left_image : (low n d e c : ℕ) → d < n / 2 → e < n / 2 → c ≡ d → c ≡ low + n - e - 1 → ⊥
  left_image low n d e c h k i j = omega arith

  image_image : (low n d e c : ℕ) → d < n / 2 → e < n / 2 → c ≡ low + n - d - 1 → c ≡ low + n - e - 1 → d ≡ e
  image_image low n d e c h k i j = omega arith

  off_left : (p : Pattern Note) (e : ℕ) → bit p.mask e ≡ 0 → e < Half → (n : Note) → Paired p n → n.column ≡ e → ⊥
  unfolding HitObject.image
  off_left p e f l n k j =
      ⊎_elim (λ i. left_left n.column k.0 e p.mask k.3 f i j) (λ i. image_left (random_start T) T k.0 e n.column k.2 l i j) k.4

  off_image : (p : Pattern Note) (e : ℕ) → bit p.mask e ≡ 0 → e < Half → (n : Note) → Paired p n → n.column ≡ image e → ⊥
  unfolding HitObject.image
  off_image p e f l n k j =
      ⊎_elim (λ i. left_image (random_start T) T k.0 e n.column k.2 l i j)
      (λ i. clash p.mask k.0 e k.3 f (image_image (random_start T) T k.0 e n.column k.2 l i j)) k.4

  paired_put : (p : Pattern Note) (x : Note) (c : ℕ) (n : Note) → Paired p n → Paired (put x c p) n
  unfolding put
  paired_put p x c n k = (k.0, k.1, k.2, or_left p.mask (2 ^ c) k.0 k.3, k.4)

  -- a column of the left half is added, and its image is still free
  abbrev HalfWay : ℕ → Pattern Note → Type 0
  HalfWay d q = Pairs q × (bit q.mask d ≡ 1) × Each (λ n. n.column ≡ image d → ⊥) q.notes

  self_image : (low n d : ℕ) → d < n / 2 → d ≡ low + n - d - 1 → ⊥
  self_image low n d h e = omega arith

  half_way : (p : Pattern Note) (d : ℕ) → d < T → Pairs p → bit p.mask d ≡ 0 → random_start T ≤ d → d < Half → HalfWay d (put (circle d g.start) d p)
  unfolding HitObject.image put circle
  half_way p d on h f l k =
      let x : Note = circle d g.start in
      let own : bit (bit_or p.mask (2 ^ d)) d ≡ 1 = or_own p.mask d in (
        (
          each_snoc _ p.notes x (each_map (Paired p) _ (λ n i. paired_put p x d n i) p.notes h.0) (d, l, k, own, inl refl),
          distinct_snoc P p.notes x h.1 (fine d on) (each_map (Paired p) _ (λ n i. off_left p d f k n i) p.notes h.0),
        ),
        own,
        each_snoc _ p.notes x (each_map (Paired p) _ (λ n i. off_image p d f k n i) p.notes h.0) (self_image (random_start T) T d k),
      )

  all_way : (q : Pattern Note) (d : ℕ) → image d < T → HalfWay d q → random_start T ≤ d → d < Half → Pairs (put (circle (image d) g.start) (image d) q)
  unfolding put circle
  all_way q d on h l k =
      let x : Note = circle (image d) g.start in (
        each_snoc _ q.notes x (each_map (Paired q) _ (λ n i. paired_put q x (image d) n i) q.notes h.0.0)
            (d, l, k, or_left q.mask (2 ^ image d) d h.1, inr refl),
        distinct_snoc P q.notes x h.0.1 (fine (image d) on) h.2,
      )

  mirror_pairs : (n c : ℕ) (p : Pattern Note) → random_start T < Half → (random_start T ≤ c) × (c < Half) → Pairs p → Makes Pairs (HitObject.add_mirrored g n c p)
  unfolding HitObject.add_mirrored HitObject.add_pair HitObject.add_note
  mirror_pairs zero c p s l h = giving h
  mirror_pairs (suc n) c p s l h =
      seq (find_draw (λ d. (random_start T ≤ d) × (d < Half)) T (random_start T) Half p.mask (within (random_start T) Half s) c l)
      (λ d k. seq {P = Pairs}
      (seq {P = HalfWay d} (added T (circle d g.start) d p (λ on. half_way p d on h k.0 k.1.0 k.1.1))
      (λ q i. added T (circle (image d) g.start) (image d) q (λ on. all_way q d on i k.1.0 k.1.1)))
      (λ r j. mirror_pairs n d r s k.1 j))

  pair_clear : (n : Note) (p : Pattern Note) → Paired p n → 0 < random_start T → n.column ≡ 0 → ⊥
  unfolding HitObject.image
  pair_clear n p k z e = ⊎_elim (λ i. one n.column k.0 k.1 z i e) (λ i. two (random_start T) T k.0 n.column k.2 z i e) k.4
    where
      one : (c d : ℕ) → random_start T ≤ d → 0 < random_start T → c ≡ d → c ≡ 0 → ⊥
      one c d l z i e = omega arith

      two : (low n d c : ℕ) → d < n / 2 → 0 < low → c ≡ low + n - d - 1 → c ≡ 0 → ⊥
      two low n d c l z i e = omega arith

  pairs_clear : (p : Pattern Note) → Pairs p → Clear p
  pairs_clear p h = (λ z. each_map (Paired p) _ (λ n k e. pair_clear n p k z e) p.notes h.0, h.1)

  odd : (b : Bool) → not b ≡ true → b ≡ false
  odd true h = sym h
  odd false h = refl

  off_centre : (n : Note) (p : Pattern Note) → (T % 2 ≡ 0 → ⊥) → Paired p n → n.column ≡ Half → ⊥
  unfolding HitObject.image
  off_centre n p t k e = ⊎_elim (λ i. one n.column k.0 Half k.2 i e) (λ i. two (random_start T) T k.0 n.column t k.2 i e) k.4
    where
      one : (c d h : ℕ) → d < h → c ≡ d → c ≡ h → ⊥
      one c d h l i e = omega arith

      two : (low n d c : ℕ) → (n % 2 ≡ 0 → ⊥) → d < n / 2 → c ≡ low + n - d - 1 → c ≡ n / 2 → ⊥
      two low n d c t l i e = omega arith

  centre_clear : (p : Pattern Note) → Half < T → Pairs p → random_start T < Half → (T % 2 ≡ 0 → ⊥) → Clear (put (circle Half g.start) Half p)
  unfolding put circle
  centre_clear p on h s t = (
    λ z. each_snoc _ p.notes _ ((pairs_clear p h).0 z) (some (random_start T) Half s),
    distinct_snoc P p.notes _ h.1 (fine Half on) (each_map (Paired p) _ (λ n k. off_centre n p t k) p.notes h.0),
  )
    where
      some : (a b : ℕ) → a < b → b ≡ 0 → ⊥
      some a b l e = omega arith

  mirror_two : 2 ≤ T → (m : HitObject.Mirrored) → Makes (Distinct P) (HitObject.mirror_notes g m)
  unfolding HitObject.mirror_notes HitObject.mirror_from HitObject.add_centre HitObject.add_note HitObject.at_centre empty
  mirror_two t m =
      let s = start_small T t in
      let centre = (HitObject.mirrored_chances T m).centre in
      seq valued (λ v u. seq (counted _ _ _ _ _) (λ n u. seq (column_makes _ (random_start T) Half (within (random_start T) Half s))
      (λ c l. seq (mirror_pairs n c empty s l (tt, (tt, tt)))
      (λ p h. seq {P = Clear}
      (by (HitObject.at_centre T n centre (unit v)) _ _
      (λ e. added T (circle Half g.start) Half p
      (λ on. centre_clear p on h s (eqb-false (T % 2) 0 (odd (eqb (T % 2) 0) (and_l (not (eqb (T % 2) 0)) (not (eqb n 3)) (and_l (not (eqb (T % 2) 0) && not (eqb n 3)) _ e))))))
      (λ e. giving (pairs_clear p h)))
      (λ q k. special_two q k)))))

  mirrored_two : 2 ≤ T → (m : HitObject.Mirrored) → Makes (Distinct P) (HitObject.generate_random_pattern_with_mirrored g m)
  unfolding HitObject.generate_random_pattern_with_mirrored
  mirrored_two t m = by (contains g.flags force_not_stack) _ _ (λ e. pattern_two _) (λ e. mirror_two t m)

  -- ---- all branches

  core_two : 1 ≤ T → Makes (Distinct P) (HitObject.generate_core g)
  unfolding HitObject.generate_core
  core_two t =
      let has = contains g.flags in
      by (eqb T 1) _ _ (λ e. single_two _)
      (λ one. by (has reverse && HitObject.some g) _ _ (λ e. reversed_two t)
      (λ e. by (HitObject.cycles g) _ _ (λ e. single_two _)
      (λ e. by (has force_stack && HitObject.some g) _ _ (λ e. stacked_two t)
      (λ e. by (HitObject.alone g && has stair) _ _ (λ e. single_two _)
      (λ e. by (HitObject.alone g && has reverse_stair) _ _ (λ e. single_two _)
      (λ e. by (has keep_single) _ _ (λ e. less (notes_good 1) (λ p h. h.two))
      (λ e. by (has mirror) _ _ (λ e. mirrored_two (more (eqb-false T 1 one)) _) (λ e. pattern_two _))))))))
    where
      more : (T ≡ 1 → ⊥) → 2 ≤ T
      more n = omega arith

  pub circle_differ : 1 ≤ T → Makes (λ made. EveryTwo Differ made.notes × Each P made.notes) (HitObject.generate g)
  unfolding HitObject.generate
  circle_differ t = seq (core_two t) (λ p h. giving h)

  apart : (n m : Note) → Differ n m → Apart (extent n) (extent m)
  unfolding Apart extent_of
  apart n m h e = absurd (h e)

  pub circle_lanes : 1 ≤ T → Makes (λ made. Lanes made.notes × Each P made.notes) (HitObject.generate g)
  unfolding HitObject.generate
  circle_lanes t = seq (core_two t) (λ p h. giving (two_map Differ (λ n m. Apart (extent n) (extent m)) apart p.notes h.0, h.1))
