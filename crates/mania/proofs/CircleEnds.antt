-- A circle is refused only by the deck, at a reverse stair of 8 columns from column 0. Assumes nothing.
use Rattle.std.specs.Prelude.{if◌then◌else◌}
use mathlib.Core.Path.{◌≡◌, refl, sym, ap, ◌∙◌, subst}
use mathlib.Core.Logic.{◌⊎◌, inl, inr, ⊎_elim}
use Prim.Native.Nat.{ℕ, zero, suc, ◌+◌, ◌-◌, ◌*◌, ◌/◌, ◌%◌, ◌^◌, ◌≤◌, ◌<◌}
use native.Mathlib.Omega.{arith}
use mathlib.Core.Bool.{Bool, true, false, not, ◌&&◌, ◌||◌}
use lib.Dec.{eqb, ltb, lit≤}
use lib.Bits.{bit_or, or_zero_l}
use lib.Ieee.{Float, round, sub, lt}
use lib.ListN.{get_or}
use borrow.Author.Tests.{eqb-true, eqb-false, ltb-true, ltb-false, eq-eqb, ne_eqb}
use Rattle.rules.specs.Refusal.{Refusal, off_deck, ObjectRule, long_search}
use Rattle.random.specs.Generator.{unit}
use Rattle.mania.specs.declared.Note.{Note}
use Rattle.mania.specs.declared.HitObjectPatternGenerator.{HitObjectPatternGenerator}
use Rattle.floats.specs.Least.{least, clamped}
use Rattle.mania.specs.Steps.{double}
use Rattle.model.specs.Sound.{finish, clap, has_flag}
use Rattle.mania.specs.PatternType.{force_stack, force_not_stack, keep_single, mirror, reverse, cycle, stair, reverse_stair, contains}
use Rattle.mania.specs.Made.{circle}
use Rattle.mania.specs.Pattern.{Pattern, free, empty, put, add}
use Rattle.mania.specs.ManiaObject.{column}
use Rattle.mania.specs.PatternGenerator.{random_start, get_column, get_random_note_count}
use Rattle.mania.specs.HitObject
use Rattle.mania.specs.Laws.Tests.{and_l, and_r}
use Rattle.mania.proofs.Columns.{start_le, start_small}
use Rattle.mania.proofs.Meets.{Meets, giving, refusing, seq, by, less, valued, added}
use Rattle.mania.proofs.Frees.{frees, all_free, frees_put, frees_put_in, frees_past, room}
use Rattle.mania.proofs.Searching.{never, In, search_in, search_by, any_in}
use Rattle.mania.proofs.NoteCounts.{None, none_zero, at_most_1, at_most_2, at_most_3, any_count}

-- ---- the deck

-- the special column is one of 8
pub start_of : (columns : ℕ) → (columns ≡ 8 → random_start columns ≡ 1) × ((columns ≡ 8 → ⊥) → random_start columns ≡ 0)
unfolding random_start
start_of columns = (λ e. rw (eq-eqb columns 8 e), λ e. rw (ne_eqb columns 8 e))

-- two columns or more to search in
pub two_columns : (columns : ℕ) → 2 ≤ columns → random_start columns + 2 ≤ columns
two_columns columns h = go (eqb columns 8) refl
  where
    go : (b : Bool) → eqb columns 8 ≡ b → random_start columns + 2 ≤ columns
    go true e = let z = eqb-true columns 8 e in omega (arith, (start_of columns).0 z)
    go false e = omega (arith, (start_of columns).1 (eqb-false columns 8 e))

pub column_lt : (x : Float) (columns : ℕ) → 1 ≤ columns → column x columns < columns
unfolding column
column_lt x columns h = omega arith

pub own_column : (x : Float) (columns : ℕ) → 1 ≤ columns → In (random_start columns) columns (get_column x columns)
unfolding get_column
own_column x columns h = (start_le x columns, go (eqb columns 8) refl)
  where
    go : (b : Bool) → eqb columns 8 ≡ b → (if b then column x 7 + 1 else column x columns) < columns
    go true e = let z = eqb-true columns 8 e in omega (arith, column_lt x 7 (lit≤ tt))
    go false e = column_lt x columns h

-- ---- chances

-- of a chance, and of a cap
least_zero : (k : Float) → lt k (double 0 100) ≡ false → least (double 0 100) k ≡ double 0 100
unfolding least
least_zero k h = rw h

none_hundredths : None (double 0 100)
unfolding round sub
none_hundredths = refl

-- no cap is below 0
caps_4 : (columns : ℕ) → columns ≤ 9 → (lt (get_or HitObject.caps columns (HitObject.percent 100 100 100 100)).p4 (double 0 100) ≡ false) × (lt (get_or HitObject.caps columns (HitObject.percent 100 100 100 100)).p5 (double 0 100) ≡ false)
unfolding round lt HitObject.caps HitObject.percent
caps_4 zero h = (refl, refl)
caps_4 (suc zero) h = (refl, refl)
caps_4 (suc (suc zero)) h = (refl, refl)
caps_4 (suc (suc (suc zero))) h = (refl, refl)
caps_4 (suc (suc (suc (suc zero)))) h = (refl, refl)
caps_4 (suc (suc (suc (suc (suc zero))))) h = (refl, refl)
caps_4 (suc (suc (suc (suc (suc (suc zero)))))) h = (refl, refl)
caps_4 (suc (suc (suc (suc (suc (suc (suc zero))))))) h = (refl, refl)
caps_4 (suc (suc (suc (suc (suc (suc (suc (suc zero)))))))) h = (refl, refl)
caps_4 (suc (suc (suc (suc (suc (suc (suc (suc (suc zero))))))))) h = (refl, refl)
caps_4 (suc (suc (suc (suc (suc (suc (suc (suc (suc (suc n)))))))))) h = absurd (more h)
  where
    more : suc (suc (suc (suc (suc (suc (suc (suc (suc (suc n))))))))) ≤ 9 → ⊥
    more h = omega arith

-- a random pattern has at most three notes: no chance of 4 or 5; with 2 columns none of 3
record Rare (c : HitObject.Chances) : Type 0 where
  p4_zero : c.p4 ≡ double 0 100
  p5_zero : c.p5 ≡ double 0 100
  p3_none : None (least c.p3 (double 0 100))

percent_rare : (a b : ℕ) → None (least (double b 100) (double 0 100)) → Rare (HitObject.percent a b 0 0)
unfolding HitObject.percent
percent_rare a b h = record { p4_zero = refl; p5_zero = refl; p3_none = h }

if_rare : (b : Bool) (c d : HitObject.Chances) → Rare c → Rare d → Rare (if b then c else d)
if_rare true c d h k = h
if_rare false c d h k = k

rows_rare : (difficulty : Float) (rare : Bool) → Rare (HitObject.chances_by difficulty rare)
unfolding HitObject.chances_by round sub lt least
rows_rare difficulty rare =
    if_rare (lt (double 65 10) difficulty) _ _ (if_rare rare _ _ (percent_rare 78 42 refl) (percent_rare 100 62 refl))
    (if_rare (lt (double 4 1) difficulty) _ _ (if_rare rare _ _ (percent_rare 35 8 refl) (percent_rare 52 15 refl))
    (if_rare (lt (double 2 1) difficulty) _ _ (if_rare rare _ _ (percent_rare 18 0 refl) (percent_rare 45 0 refl)) (percent_rare 0 0 refl)))

module _ (Q : Refusal → Type 0) (long : Q long_search) (g : HitObjectPatternGenerator) (some : 2 ≤ g.columns) (deck : g.columns ≤ 9) where
  abbrev T : ℕ
  T = g.columns

  abbrev low : ℕ
  low = random_start T

  abbrev Any : Pattern Note → Type 0
  Any p = Unit {0}

  note : {P : Pattern Note → Type 0} (c : ℕ) (p : Pattern Note) → c < T → P (put (circle c g.start) c p) → Meets Q P (HitObject.add_note g c p)
  unfolding HitObject.add_note
  note c p l h = added T (circle c g.start) c p l h

  each : (to : ℕ → ℕ) → ((i : ℕ) → low ≤ i → i < T → to i < T) → (n i : ℕ) (p : Pattern Note) → low ≤ i → i + n ≤ T → Meets Q Any (HitObject.add_each g to n i p)
  unfolding HitObject.add_each HitObject.add_one
  each to on zero i p l m = giving tt
  each to on (suc n) i p l m =
      seq {P = Any} (by (free g.mask i) _ _ (λ e. giving tt) (λ e. note (to i) p (on i l (omega arith)) tt)) (λ q u. each to on n (suc i) q (omega arith) (omega arith))

  random : (barred n c : ℕ) (p : Pattern Note) → In low T c → n ≤ frees (bit_or p.mask barred) low (T - low) → Meets Q Any (HitObject.add_random g barred n c p)
  unfolding HitObject.add_random put
  random barred zero c p h k = giving tt
  random barred (suc n) c p h k =
      seq (search_by Q long (HitObject.next_of g) T c (bit_or p.mask barred) h (omega arith))
      (λ d i. seq {P = λ q. q.mask ≡ bit_or p.mask (2 ^ d)} (note d p i.1.1 refl)
      (λ q e. random barred n d q i.1 (subst (λ (x : ℕ). n ≤ frees (bit_or x barred) low (T - low)) (sym e) (omega (arith, frees_put_in p.mask barred d low (T - low))))))

  notes : (n : ℕ) → (contains g.flags force_not_stack ≡ false → n ≤ T - low) → Meets Q Any (HitObject.generate_random_notes g n)
  unfolding HitObject.generate_random_notes empty
  notes n h =
      by (contains g.flags force_not_stack) _ _
      (λ e. random g.mask _ _ empty (own_column g.x T (omega arith)) (rw (or_zero_l g.mask) (omega (arith, room g.mask low (T - low)))))
      (λ e. random 0 _ _ empty (own_column g.x T (omega arith)) (rw (or_zero_l 0) (omega (arith, all_free low (T - low), h e))))

  special : (p : Pattern Note) → Meets Q Any (HitObject.add_special g p)
  unfolding HitObject.add_special
  special p =
      by (ltb 0 low && (has_flag g.sound clap && has_flag g.sound finish)) _ _ (λ e. note 0 p (omega arith) tt) (λ e. giving tt)

  -- with stacking forbidden, whatever the chances
  pattern_off : (c : HitObject.Chances) → contains g.flags force_not_stack ≡ true → Meets Q Any (HitObject.generate_random_pattern g c)
  unfolding HitObject.generate_random_pattern HitObject.count_of
  pattern_off c f = seq (any_count _ _ _ _ _) (λ n u. seq (notes n (λ e. absurd (never f e))) (λ p u. special p))

  none_4 : (c : HitObject.Chances) → Rare c → None (HitObject.capped T c).p4
  unfolding HitObject.capped
  none_4 c h = subst None (sym (ap (λ (x : Float). least x (get_or HitObject.caps T (HitObject.percent 100 100 100 100)).p4) h.p4_zero ∙ least_zero _ (caps_4 T deck).0)) none_hundredths

  none_5 : (c : HitObject.Chances) → Rare c → None (HitObject.capped T c).p5
  unfolding HitObject.capped
  none_5 c h = subst None (sym (ap (λ (x : Float). least x (get_or HitObject.caps T (HitObject.percent 100 100 100 100)).p5) h.p5_zero ∙ least_zero _ (caps_4 T deck).1)) none_hundredths

  none_3 : (c : HitObject.Chances) → Rare c → T ≡ 2 → None (HitObject.capped T c).p3
  unfolding HitObject.capped HitObject.caps HitObject.percent
  none_3 c h e = subst (λ (t : ℕ). None (HitObject.capped t c).p3) (sym e) h.p3_none

  -- at most three notes
  three_of : (c : HitObject.Chances) → Rare c → Meets Q (λ n. n ≤ 3) (HitObject.count_of g c)
  unfolding HitObject.count_of
  three_of c h = at_most_3 _ _ _ _ _ (none_5 c h) none_zero (none_4 c h)

  pub three_notes : (difficulty : Float) (rare : Bool) → Meets Q (λ n. n ≤ 3) (HitObject.count_of g (HitObject.chances_by difficulty rare))
  three_notes difficulty rare = three_of _ (rows_rare difficulty rare)

  -- and two where there are two columns
  rare_count : (c : HitObject.Chances) → Rare c → Meets Q (λ n. n ≤ T - low) (HitObject.count_of g c)
  unfolding HitObject.count_of
  rare_count c h = go (eqb T 2) refl
    where
      small : (n k : ℕ) → n ≤ k → k ≤ T - low → n ≤ T - low
      small n k h l = omega arith

      wide : (T ≡ 2 → ⊥) → 3 ≤ T - low
      wide n = go (eqb T 8) refl
        where
          go : (b : Bool) → eqb T 8 ≡ b → 3 ≤ T - low
          go true e = let z = eqb-true T 8 e in omega (arith, (start_of T).0 z)
          go false e = omega (arith, (start_of T).1 (eqb-false T 8 e))

      go : (b : Bool) → eqb T 2 ≡ b → Meets Q (λ n. n ≤ T - low) (HitObject.count_of g c)
      go true e =
          let z = eqb-true T 2 e in
          less (at_most_2 _ _ _ _ _ (none_5 c h) none_zero (none_4 c h) (none_3 c h z)) (λ n l. small n 2 l (omega (arith, two_columns T some))) (λ r q. q)
      go false e = less (three_of c h) (λ n l. small n 3 l (wide (eqb-false T 2 e))) (λ r q. q)

  pattern : (c : HitObject.Chances) → Rare c → Meets Q Any (HitObject.generate_random_pattern g c)
  unfolding HitObject.generate_random_pattern
  pattern c h = seq (rare_count c h) (λ n l. seq (notes n (λ e. l)) (λ p u. special p))

  -- ---- mirrored

  abbrev half : ℕ
  half = T / 2

  mirrored : (n c : ℕ) (p : Pattern Note) → In low half c → n ≤ frees p.mask low (half - low) → Meets Q Any (HitObject.add_mirrored g n c p)
  unfolding HitObject.add_mirrored HitObject.add_pair HitObject.image put
  mirrored zero c p h k = giving tt
  mirrored (suc n) c p h k =
      seq (search_in Q long low half p.mask (start_small T some) T c h (omega arith))
      (λ d i. let other = low + T - d - 1 in
      seq {P = λ r. r.mask ≡ bit_or (bit_or p.mask (2 ^ d)) (2 ^ other)}
      (seq {P = λ q. q.mask ≡ bit_or p.mask (2 ^ d)} (note d p (omega (arith, i.1.1)) refl)
      (λ q e. note other q (omega (arith, i.1.0)) (ap (λ (x : ℕ). bit_or x (2 ^ other)) e)))
      (λ r f. mirrored n d r i.1
      (subst (λ (x : ℕ). n ≤ frees x low (half - low)) (sym f)
      (omega (arith, frees_put p.mask d low (half - low), frees_past (bit_or p.mask (2 ^ d)) other low (half - low) (past d i.1))))))
    where
      past : (d : ℕ) → In low half d → low + (half - low) ≤ low + T - d - 1
      past d h = omega (arith, h.0, h.1)

  zero_clamped : None (clamped (double 0 1) (double 1 1) (double 0 1))
  unfolding round sub lt clamped
  zero_clamped = refl

  -- at most as many as the left half has columns
  abbrev counted : HitObject.Mirrored → ObjectRule ℕ
  counted m = get_random_note_count (clamped (double 0 1) (double 1 1) m.p2) (clamped (double 0 1) (double 1 1) m.p3) (double 0 1) (double 0 1) (double 0 1)

  p2_zero : (m : HitObject.Mirrored) → (T ≡ 2) ⊎ (T ≡ 3) → (HitObject.mirrored_chances T m).p2 ≡ double 0 1
  unfolding HitObject.mirrored_chances
  p2_zero m h =
      ⊎_elim (λ (e : T ≡ 2). subst (λ (t : ℕ). (HitObject.mirrored_chances t m).p2 ≡ double 0 1) (sym e) refl) (λ (e : T ≡ 3). subst (λ (t : ℕ). (HitObject.mirrored_chances t m).p2 ≡ double 0 1) (sym e) refl) h

  p3_zero : (m : HitObject.Mirrored) (t : ℕ) → t ≡ T → (t ≡ 2) ⊎ (t ≡ 3) ⊎ (t ≡ 4) ⊎ (t ≡ 5) → (HitObject.mirrored_chances T m).p3 ≡ double 0 1
  unfolding HitObject.mirrored_chances
  p3_zero m t e h = subst (λ (t : ℕ). (HitObject.mirrored_chances t m).p3 ≡ double 0 1) e (go h)
    where
      at : (n : ℕ) → t ≡ n → (HitObject.mirrored_chances n m).p3 ≡ double 0 1 → (HitObject.mirrored_chances t m).p3 ≡ double 0 1
      at n e h = subst (λ (t : ℕ). (HitObject.mirrored_chances t m).p3 ≡ double 0 1) (sym e) h

      go : (t ≡ 2) ⊎ (t ≡ 3) ⊎ (t ≡ 4) ⊎ (t ≡ 5) → (HitObject.mirrored_chances t m).p3 ≡ double 0 1
      go h = ⊎_elim (λ e. at 2 e refl) (λ h. ⊎_elim (λ e. at 3 e refl) (λ h. ⊎_elim (λ e. at 4 e refl) (λ e. at 5 e refl) h) h) h

  none_clamped : (p : Float) → p ≡ double 0 1 → None (clamped (double 0 1) (double 1 1) p)
  none_clamped p e = subst (λ (x : Float). None (clamped (double 0 1) (double 1 1) x)) (sym e) zero_clamped

  wide : (k : ℕ) → 2 * k ≤ T → k ≤ 3 → (k ≡ 3 → 6 ≤ T) → k ≤ half - low
  wide k h l m = go (eqb T 8) refl
    where
      go : (b : Bool) → eqb T 8 ≡ b → k ≤ half - low
      go true e = let z = eqb-true T 8 e in omega (arith, (start_of T).0 z)
      go false e = omega (arith, (start_of T).1 (eqb-false T 8 e))

  mirror_count : (m : HitObject.Mirrored) → Meets Q (λ n. n ≤ half - low) (counted (HitObject.mirrored_chances T m))
  mirror_count m = go (ltb T 4) refl (ltb T 6) refl
    where
      to : (k : ℕ) → k ≤ half - low → (n : ℕ) → n ≤ k → n ≤ half - low
      to k h n l = omega arith

      one : T < 4 → (T ≡ 2) ⊎ (T ≡ 3)
      one l = pick (eqb T 2) refl
        where
          pick : (b : Bool) → eqb T 2 ≡ b → (T ≡ 2) ⊎ (T ≡ 3)
          pick true e = inl (eqb-true T 2 e)
          pick false e = let z = eqb-false T 2 e in inr (omega arith)

      few : T < 6 → (T ≡ 2) ⊎ (T ≡ 3) ⊎ (T ≡ 4) ⊎ (T ≡ 5)
      few l = pick (eqb T 2) refl (eqb T 3) refl (eqb T 4) refl
        where
          pick : (a : Bool) → eqb T 2 ≡ a → (b : Bool) → eqb T 3 ≡ b → (c : Bool) → eqb T 4 ≡ c → (T ≡ 2) ⊎ (T ≡ 3) ⊎ (T ≡ 4) ⊎ (T ≡ 5)
          pick true e b f c i = inl (eqb-true T 2 e)
          pick false e true f c i = inr (inl (eqb-true T 3 f))
          pick false e false f true i = inr (inr (inl (eqb-true T 4 i)))
          pick false e false f false i =
              let x = eqb-false T 2 e in
              let y = eqb-false T 3 f in
              let z = eqb-false T 4 i in
              inr (inr (inr (omega arith)))

      go : (a : Bool) → ltb T 4 ≡ a → (b : Bool) → ltb T 6 ≡ b → Meets Q (λ n. n ≤ half - low) (counted (HitObject.mirrored_chances T m))
      go true e b f =
          let l = ltb-true T 4 e in
          less
          (at_most_1 _ _ _ _ _ none_zero none_zero none_zero (none_clamped _ (p3_zero m T refl (few (omega arith)))) (none_clamped _ (p2_zero m (one l))))
          (λ n h. to 1 (wide 1 (omega arith) (lit≤ tt) (λ z. omega arith)) n h) (λ r q. q)
      go false e true f =
          let l = ltb-false T 4 e in
          less (at_most_2 _ _ _ _ _ none_zero none_zero none_zero (none_clamped _ (p3_zero m T refl (few (ltb-true T 6 f)))))
          (λ n h. to 2 (wide 2 (omega arith) (lit≤ tt) (λ z. omega arith)) n h) (λ r q. q)
      go false e false f =
          let l = ltb-false T 6 f in
          less (at_most_3 _ _ _ _ _ none_zero none_zero none_zero) (λ n h. to 3 (wide 3 (omega arith) (lit≤ tt) (λ z. l)) n h) (λ r q. q)

  mirror_notes_law : (m : HitObject.Mirrored) → Meets Q Any (HitObject.mirror_notes g m)
  unfolding HitObject.mirror_notes HitObject.mirror_from HitObject.add_centre empty
  mirror_notes_law m =
      let centre = (HitObject.mirrored_chances T m).centre in
      seq valued
      (λ v u. seq (mirror_count m)
      (λ n l. seq (any_in Q long low half 0 (start_small T some))
      (λ c h. seq (mirrored n c empty h (omega (arith, all_free low (half - low))))
      (λ p u. seq {P = Any} (by (HitObject.at_centre T n centre (unit v)) _ _ (λ e. note half p (omega arith) tt) (λ e. giving tt)) (λ q u. special q)))))

  with_mirrored : (m : HitObject.Mirrored) → Meets Q Any (HitObject.generate_random_pattern_with_mirrored g m)
  unfolding HitObject.generate_random_pattern_with_mirrored
  with_mirrored m = by (contains g.flags force_not_stack) _ _ (λ e. pattern_off _ e) (λ e. mirror_notes_law m)

  -- ---- the branches

  reversed : Meets Q Any (HitObject.reversed g)
  unfolding HitObject.reversed HitObject.image
  reversed = each _ (λ i l m. omega arith) (T - low) low empty (omega arith) (omega (arith, two_columns T some))

  stacked : Meets Q Any (HitObject.stacked g)
  unfolding HitObject.stacked
  stacked = each _ (λ i l m. m) (T - low) low empty (omega arith) (omega (arith, two_columns T some))

  module _ (last : g.last < T) where
    cycled : HitObject.cycles g ≡ true → low + T - g.last - 1 < T
    unfolding HitObject.cycles
    cycled e = go (eqb T 8) refl
      where
        special_first : (a b : Bool) → (not a || not b) ≡ true → a ≡ true → b ≡ false
        special_first true true h k = sym h
        special_first true false h k = refl
        special_first false b h k = absurd (never k refl)

        go : (b : Bool) → eqb T 8 ≡ b → low + T - g.last - 1 < T
        go true f =
            let z = eqb-true T 8 f in
            let c = and_r (contains g.flags cycle && HitObject.alone g) (not (eqb T 8) || not (eqb g.last 0)) (and_l _ (eqb (T % 2) 0 || not (eqb g.last (T / 2))) e) in
            let n = eqb-false g.last 0 (special_first (eqb T 8) (eqb g.last 0) c f) in
            omega (arith, (start_of T).0 z)
        go false f = omega (arith, (start_of T).1 (eqb-false T 8 f))

    stair_on : HitObject.stair_column g < T
    unfolding HitObject.stair_column
    stair_on = go (eqb (g.last + 1) T) refl
      where
        go : (b : Bool) → eqb (g.last + 1) T ≡ b → (if b then low else g.last + 1) < T
        go true e = omega (arith, two_columns T some)
        go false e = let z = eqb-false (g.last + 1) T e in omega arith

    -- from column 0 of 8, the column before is 255
    reverse_on : (HitObject.reverse_stair_column g < T) ⊎ ((T ≡ 8) × (g.last ≡ 0))
    unfolding HitObject.reverse_stair_column
    reverse_on = go (eqb g.last low) refl (eqb g.last 0) refl
      where
        go : (a : Bool) → eqb g.last low ≡ a → (b : Bool) → eqb g.last 0 ≡ b → ((if a then T - 1 else (g.last + 255) % 256) < T) ⊎ ((T ≡ 8) × (g.last ≡ 0))
        go true e b f = inl (omega arith)
        go false e false f = let z = eqb-false g.last 0 f in inl (omega arith)
        go false e true f = let y = eqb-true g.last 0 f in inr (eight (eqb T 8) refl, y)
          where
            eight : (b : Bool) → eqb T 8 ≡ b → T ≡ 8
            eight true k = eqb-true T 8 k
            eight false k = absurd (eqb-false g.last low e (y' ∙ sym ((start_of T).1 (eqb-false T 8 k))))
              where
                y' : g.last ≡ 0
                y' = eqb-true g.last 0 f

    module _ (ten : T ≡ 8 → g.last ≡ 0 → HitObject.alone g ≡ true → contains g.flags reverse_stair ≡ true → Q off_deck) where
      reverse_stair_law : HitObject.alone g ≡ true → contains g.flags reverse_stair ≡ true → Meets Q Any (HitObject.add_note g (HitObject.reverse_stair_column g) empty)
      unfolding HitObject.add_note add
      reverse_stair_law a f =
          ⊎_elim (λ l. note (HitObject.reverse_stair_column g) empty l tt)
          (λ e. by (ltb (HitObject.reverse_stair_column g) T) _ _ (λ u. giving tt) (λ u. refusing (ten e.0 e.1 a f))) reverse_on

      core : Meets Q Any (HitObject.generate_core g)
      unfolding HitObject.generate_core HitObject.image
      core =
          by (eqb T 1) _ _ (λ e. note 0 empty (omega arith) tt)
          (λ e. by (contains g.flags reverse && HitObject.some g) _ _ (λ e. reversed)
          (λ e. by (HitObject.cycles g) _ _ (λ e. note _ empty (cycled e) tt)
          (λ e. by (contains g.flags force_stack && HitObject.some g) _ _ (λ e. stacked)
          (λ e. by (HitObject.alone g && contains g.flags stair) _ _ (λ e. note _ empty stair_on tt)
          (λ e. by (HitObject.alone g && contains g.flags reverse_stair) _ _ (λ e. reverse_stair_law (and_l (HitObject.alone g) (contains g.flags reverse_stair) e) (and_r (HitObject.alone g) (contains g.flags reverse_stair) e))
          (λ e. by (contains g.flags keep_single) _ _ (λ e. notes 1 (λ f. omega (arith, two_columns T some)))
          (λ e. by (contains g.flags mirror) _ _ (λ e. with_mirrored _)
          (λ e. pattern _ (rows_rare _ _)))))))))

-- of every deck: one column has its own branch
module _ (Q : Refusal → Type 0) (long : Q long_search) (g : HitObjectPatternGenerator) (some : 1 ≤ g.columns) (deck : g.columns ≤ 9) (last : g.last < g.columns)
    (ten : g.columns ≡ 8 → g.last ≡ 0 → HitObject.alone g ≡ true → contains g.flags reverse_stair ≡ true → Q off_deck) where
  one_column : eqb g.columns 1 ≡ true → Meets Q (λ p. Unit {0}) (HitObject.generate_core g)
  unfolding HitObject.generate_core HitObject.add_note
  one_column e = rw e (added g.columns (circle 0 g.start) 0 empty some tt)

  either : (b : Bool) → eqb g.columns 1 ≡ b → Meets Q (λ p. Unit {0}) (HitObject.generate_core g)
  either true e = one_column e
  either false e = let z = eqb-false g.columns 1 e in core Q long g (omega arith) deck last ten

  pub circle_ends : Meets Q (λ m. Unit {0}) (HitObject.generate g)
  unfolding HitObject.generate
  circle_ends = seq (either (eqb g.columns 1) refl) (λ p u. giving tt)
