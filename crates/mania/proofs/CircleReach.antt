-- With 8 columns a circle leaves at most five columns, and not column 0 alone, where the previous pattern has at most five. Assumes nothing.
use Rattle.std.specs.Prelude.{if◌then◌else◌}
use mathlib.Core.Path.{◌≡◌, refl, sym, ap, subst}
use mathlib.Core.Logic.{inl, inr}
use Prim.Native.Nat.{ℕ, zero, suc, ◌+◌, ◌-◌, ◌%◌, ◌≤◌, ◌<◌}
use native.Mathlib.Nat.{zero-add}
use native.Mathlib.Omega.{arith}
use mathlib.Core.Bool.{Bool, true, false, ◌&&◌}
use lib.Dec.{eqb, ltb, lit≤}
use lib.Bits.{bit_or}
use lib.Count.{ones, ones_in}
use lib.Ieee.{Float, binary64, sub, div, le, lt}
use borrow.Author.Tests.{eqb-true, eqb-false}
use Rattle.rules.specs.Rule.{give}
use Rattle.model.specs.declared.Object.{Object}
use Rattle.mania.specs.declared.Facts.{Facts}
use Rattle.mania.specs.declared.PrevValues.{PrevValues}
use Rattle.mania.specs.declared.Note.{Note}
use Rattle.mania.specs.declared.Stair.{Stair}
use Rattle.mania.specs.declared.Stair.TheVariants.{Up, Reverse}
use Rattle.mania.specs.declared.HitObjectPatternGenerator.{HitObjectPatternGenerator}
use Rattle.mania.specs.Steps.{double}
use Rattle.model.specs.Sound.{finish, clap, has_flag}
use Rattle.mania.specs.PatternType.{force_stack, force_not_stack, keep_single, gathered, mirror, reverse, stair, reverse_stair, stair_bit, ◌⊔ₜ◌, contains}
use Rattle.mania.specs.Made.{circle}
use Rattle.mania.specs.Pattern.{Pattern, free, empty, put}
use Rattle.mania.specs.PatternGenerator.{random_start}
use Rattle.mania.specs.HitObject
use Rattle.mania.specs.Reached.{most, ReachedOf8}
use Rattle.mania.proofs.Makes.{Makes, giving, seq, less, by, added, both}
use Rattle.mania.proofs.Meets.{makes}
use Rattle.mania.proofs.Columns.{between_ge, next_ge, start_le, find_any}
use Rattle.mania.proofs.Frees.{frees, room}
use Rattle.mania.proofs.Ones.{ones_put, Above, above_own, above_more, not_alone, Beside, beside_not}
use Rattle.mania.proofs.Searching.{never}
use Rattle.mania.proofs.NoteCounts.{at_least_1}
use Rattle.mania.proofs.CircleEnds.{start_of, three_notes}

-- ---- no mirror

-- neither these bits nor these with `GATHERED` have `MIRROR`
record Plain (flags : ℕ) : Type 0 where
  bare : contains flags mirror ≡ false
  more : contains (flags ⊔ₜ gathered) mirror ≡ false

if_plain : (b : Bool) (x y : ℕ) → Plain x → Plain y → Plain (if b then x else y)
if_plain true x y h k = h
if_plain false x y h k = k

time_plain : (f : Facts) (v : PrevValues) (o : Object) → Plain (HitObject.type_by_time f v o)
unfolding HitObject.type_by_time contains ◌⊔ₜ◌ stair_bit
time_plain f v o =
    let since = sub binary64 o.start v.time in
    let dense = div binary64 f.beat (double 5 2) in
    if_plain (le since (double 80 1)) _ _ (record { bare = refl; more = refl })
    (if_plain (le since (double 95 1)) _ _ (by_stair v.stair)
    (if_plain (le since (double 105 1)) _ _ (record { bare = refl; more = refl })
    (if_plain (le since (double 125 1)) _ _ (record { bare = refl; more = refl })
    (if_plain (le since (double 135 1) && HitObject.near v o) _ _ (record { bare = refl; more = refl })
    (if_plain (le since (double 150 1) && HitObject.near v o) _ _ (record { bare = refl; more = refl })
    (if_plain (HitObject.near v o && le dense f.density) _ _ (record { bare = refl; more = refl })
    (if_plain (lt f.density dense) _ _ (record { bare = refl; more = refl }) (if_plain f.kiai _ _ (record { bare = refl; more = refl }) (record { bare = refl; more = refl })))))))))
  where
    by_stair : (s : Stair) → Plain (force_not_stack ⊔ₜ keep_single ⊔ₜ stair_bit s)
    by_stair Up = record { bare = refl; more = refl }
    by_stair Reverse = record { bare = refl; more = refl }

-- with 8 columns no circle is mirrored
sound_plain : (sound flags : ℕ) → Plain flags → contains (HitObject.type_by_sound 8 sound flags) mirror ≡ false
unfolding HitObject.type_by_sound
sound_plain sound flags h = go (contains flags keep_single) refl (has_flag sound finish) refl
  where
    by_clap : (c : Bool) → contains (if c then flags ⊔ₜ gathered else flags) mirror ≡ false
    by_clap true = h.more
    by_clap false = h.bare

    go : (a : Bool) → contains flags keep_single ≡ a → (b : Bool) → has_flag sound finish ≡ b → contains (HitObject.type_by_sound 8 sound flags) mirror ≡ false
    go true e b f = rw e h.bare
    go false e true f = rw (e, f) (by_clap (has_flag sound clap))
    go false e false f = rw (e, f) (by_clap (has_flag sound clap))

pub not_mirrored : (f : Facts) (v : PrevValues) (o : Object) → contains (HitObject.new f v 8 o).flags mirror ≡ false
unfolding HitObject.new
not_mirrored f v o = sound_plain o.sound (HitObject.type_by_time f v o) (time_plain f v o)

-- ---- the patterns

-- at most k columns; where k is not 0, one is above column 0
record Noted (k : ℕ) (p : Pattern Note) : Type 0 where
  few : ones p.mask ≤ k
  some : 1 ≤ k → Above p.mask

noted_reached : (k : ℕ) (p : Pattern Note) → k ≤ most → Noted k p → ReachedOf8 p.mask
unfolding ones ones_in
noted_reached k p l h = record { few = omega (arith, h.few); beside = λ e. not_alone p.mask (h.some (some (ap ones e) h.few)) e }
  where
    some : {n : ℕ} → n ≡ 1 → n ≤ k → 1 ≤ k
    some e h = omega arith

module _ (g : HitObjectPatternGenerator) (eight : g.columns ≡ 8) where
  abbrev T : ℕ
  T = g.columns

  low : random_start T ≡ 1
  low = (start_of T).0 eight

  from_low : (c : ℕ) → random_start T ≤ c → 1 ≤ c
  from_low c h = omega (arith, low)

  note : {P : Pattern Note → Type 0} (c : ℕ) (p : Pattern Note) → (c < T → P (put (circle c g.start) c p)) → Makes P (HitObject.add_note g c p)
  unfolding HitObject.add_note
  note c p h = added T (circle c g.start) c p h

  put_noted : (k c : ℕ) (p : Pattern Note) → 1 ≤ c → Noted k p → Noted (suc k) (put (circle c g.start) c p)
  unfolding put
  put_noted k c p l h = record { few = omega (arith, ones_put p.mask c, h.few); some = λ u. above_own p.mask c l }

  none : Noted 0 empty
  unfolding empty ones ones_in
  none = record { few = lit≤ tt; some = λ l. absurd (omega arith) }

  -- one note, above column 0
  one : (c : ℕ) → (c < T → 1 ≤ c) → Makes (λ p. ReachedOf8 p.mask) (HitObject.add_note g c empty)
  one c h = note c empty (λ l. noted_reached 1 _ (lit≤ tt) (put_noted 0 c empty (h l) none))

  -- ---- random notes

  random : (barred n c k : ℕ) (p : Pattern Note) → random_start T ≤ c → Noted k p → Makes (Noted (n + k)) (HitObject.add_random g barred n c p)
  unfolding HitObject.add_random
  random barred zero c k p l h = giving (subst (λ (x : ℕ). Noted x p) (sym (zero-add k)) h)
  random barred (suc n) c k p l h =
      seq (find_any (λ d. random_start T ≤ d) T (random_start T) T (bit_or p.mask barred) (λ v k. between_ge (random_start T) T v) (next_ge T) (HitObject.next_of g) c l)
      (λ d i. seq (note d p (λ on. put_noted k d p (from_low d i.1) h))
      (λ q j. less (random barred n d (suc k) q i.1 j) (λ r m. subst (λ (x : ℕ). Noted x r) (next n k) m)))
    where
      next : (n k : ℕ) → n + suc k ≡ suc n + k
      next n k = omega arith

  -- no more than are asked for; one at least, where the previous pattern leaves room
  module _ (few : ones g.mask ≤ most) where
    notes : (n : ℕ) → 1 ≤ n → Makes (λ p. (ones p.mask ≤ n) × Above p.mask) (HitObject.generate_random_notes g n)
    unfolding HitObject.generate_random_notes
    notes n h =
        by (contains g.flags force_not_stack) _ _
        (λ e. less (random g.mask _ _ 0 empty (start_le g.x T) none)
        (λ p k. (omega (arith, k.few), k.some (omega (arith, low)))))
        (λ e. less (random 0 _ _ 0 empty (start_le g.x T) none) (λ p k. (omega (arith, k.few), k.some (omega arith))))

    -- the special column comes beside another one
    special : (p : Pattern Note) → ones p.mask ≤ 3 → Above p.mask → Makes (λ q. ReachedOf8 q.mask) (HitObject.add_special g p)
    unfolding HitObject.add_special put
    special p h a =
        by (ltb 0 (random_start T) && (has_flag g.sound clap && has_flag g.sound finish)) _ _
        (λ e. note 0 p (λ l. record { few = omega (arith, ones_put p.mask 0); beside = not_alone _ (above_more p.mask 0 a) }))
        (λ e. giving (record { few = omega arith; beside = not_alone p.mask a }))

    at_least : (difficulty : Float) (rare : Bool) → Makes (λ n. 1 ≤ n) (HitObject.count_of g (HitObject.chances_by difficulty rare))
    unfolding HitObject.count_of
    at_least difficulty rare = makes {Q = λ r. Unit {0}} (at_least_1 _ _ _ _ _)

    pattern : (difficulty : Float) (rare : Bool) → Makes (λ p. ReachedOf8 p.mask) (HitObject.generate_random_pattern g (HitObject.chances_by difficulty rare))
    unfolding HitObject.generate_random_pattern
    pattern difficulty rare =
        seq (both (makes (three_notes (λ r. Unit {0}) tt g (omega arith) (omega arith) difficulty rare)) (at_least difficulty rare))
        (λ n l. seq (notes n l.1) (λ p h. special p (omega (arith, h.0, l.0)) h.1))

    -- ---- the columns of the previous pattern

    each : (to : ℕ → ℕ) → ((i : ℕ) → 1 ≤ i → i < T → 1 ≤ to i) → (n i : ℕ) (p : Pattern Note) → 1 ≤ i → i + n ≤ T → Beside p.mask → ones p.mask + n ≤ ones g.mask + frees g.mask i n
        → Makes (λ q. ReachedOf8 q.mask) (HitObject.add_each g to n i p)
    unfolding HitObject.add_each HitObject.add_one frees put
    each to above zero i p l m b h = giving (record { few = omega arith; beside = beside_not p.mask b })
    each to above (suc n) i p l m b h =
        seq {P = λ q. Beside q.mask × (ones q.mask + n ≤ ones g.mask + frees g.mask (suc i) n)}
        (go (free g.mask i) h)
        (λ q k. each to above n (suc i) q (omega arith) (omega arith) k.0 k.1)
      where
        go : (t : Bool) → ones p.mask + suc n ≤ ones g.mask + ((if t then 1 else 0) + frees g.mask (suc i) n)
            → Makes (λ q. Beside q.mask × (ones q.mask + n ≤ ones g.mask + frees g.mask (suc i) n)) (if t then give p else HitObject.add_note g (to i) p)
        go true h = giving (b, omega arith)
        go false h = note (to i) p (λ on. (inr (above_own p.mask (to i) (above i l (omega arith))), omega (arith, ones_put p.mask (to i))))

    reversed : Makes (λ q. ReachedOf8 q.mask) (HitObject.reversed g)
    unfolding HitObject.reversed HitObject.image empty ones ones_in
    reversed = each _ (λ i l m. omega (arith, low)) (T - random_start T) (random_start T) empty (omega (arith, low)) (omega (arith, low)) (inl refl) (omega (arith, room g.mask (random_start T) (T - random_start T)))

    stacked : Makes (λ q. ReachedOf8 q.mask) (HitObject.stacked g)
    unfolding HitObject.stacked empty ones ones_in
    stacked = each _ (λ i l m. l) (T - random_start T) (random_start T) empty (omega (arith, low)) (omega (arith, low)) (inl refl) (omega (arith, room g.mask (random_start T) (T - random_start T)))

    -- ---- one column from the last

    stair_above : 1 ≤ HitObject.stair_column g
    unfolding HitObject.stair_column
    stair_above = go (eqb (g.last + 1) T)
      where
        go : (b : Bool) → 1 ≤ (if b then random_start T else g.last + 1)
        go true = omega (arith, low)
        go false = omega arith

    module _ (last : g.last < T) (plain : contains g.flags mirror ≡ false) where
      reverse_above : HitObject.reverse_stair_column g < T → 1 ≤ HitObject.reverse_stair_column g
      unfolding HitObject.reverse_stair_column
      reverse_above = go (eqb g.last (random_start T)) refl
        where
          go : (b : Bool) → eqb g.last (random_start T) ≡ b → (if b then T - 1 else (g.last + 255) % 256) < T → 1 ≤ (if b then T - 1 else (g.last + 255) % 256)
          go true e l = omega arith
          go false e l = let z = eqb-false g.last (random_start T) e in omega (arith, low)

      core : Makes (λ p. ReachedOf8 p.mask) (HitObject.generate_core g)
      unfolding HitObject.generate_core HitObject.image
      core =
          by (eqb T 1) _ _ (λ e. let z = eqb-true T 1 e in absurd (omega arith))
          (λ e. by (contains g.flags reverse && HitObject.some g) _ _ (λ e. reversed)
          (λ e. by (HitObject.cycles g) _ _ (λ e. one _ (λ l. omega (arith, low)))
          (λ e. by (contains g.flags force_stack && HitObject.some g) _ _ (λ e. stacked)
          (λ e. by (HitObject.alone g && contains g.flags stair) _ _ (λ e. one _ (λ l. stair_above))
          (λ e. by (HitObject.alone g && contains g.flags reverse_stair) _ _ (λ e. one _ reverse_above)
          (λ e. by (contains g.flags keep_single) _ _ (λ e. less (notes 1 (lit≤ tt)) (λ p h. record { few = omega (arith, h.0); beside = not_alone p.mask h.1 }))
          (λ e. by (contains g.flags mirror) _ _ (λ e. absurd (never e plain))
          (λ e. pattern _ _))))))))

      pub circle_reach : Makes (λ m. ReachedOf8 m.mask) (HitObject.generate g)
      unfolding HitObject.generate
      circle_reach = seq core (λ p h. giving h)
