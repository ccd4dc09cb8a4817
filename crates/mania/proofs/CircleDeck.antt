-- A circle's notes lie on the deck, and so do the mask and the last column that it leaves; that column is one of the mask's. Assumes nothing.
use mathlib.Core.Path.{◌≡◌, refl, sym, ap, ◌∙◌}
use mathlib.Core.Logic.{inl, inr}
use Prim.Native.Nat.{ℕ, zero, suc, ◌/◌, ◌^◌, ◌<◌}
use mathlib.Core.Bool.{◌&&◌}
use lib.Dec.{eqb, ltb}
use lib.Bits.{bit_or, or_lt}
use lib.Pow.{pow_pos, pow-lt}
use borrow.Author.Tests.{ltb-true}
use Rattle.random.specs.Generator.{unit}
use Rattle.random.specs.Play.{found, on}
use Rattle.random.specs.declared.Draws.{Draws}
use Rattle.random.specs.Laws.On.{gives}
use Rattle.mania.specs.declared.Note.{Note}
use Rattle.mania.specs.declared.HitObjectPatternGenerator.{HitObjectPatternGenerator}
use Rattle.model.specs.Sound.{finish, clap, has_flag}
use Rattle.mania.specs.PatternType.{force_stack, force_not_stack, keep_single, mirror, reverse, stair, reverse_stair, contains}
use Rattle.mania.specs.Made.{Made, circle}
use Rattle.mania.specs.Pattern.{Pattern, free, empty, put, add}
use Rattle.mania.specs.PatternGenerator.{random_start}
use Rattle.mania.specs.HitObject
use Rattle.mania.specs.Demand.{Each}
use Rattle.mania.proofs.Masks.{or_own}
use Rattle.mania.proofs.Ones.{Own, Owned, mask_from, mask_snoc}
use Rattle.mania.proofs.Makes.{Makes, any, giving, refusing, seq, by, each_snoc}

pub record Deck (columns : ℕ) (p : Pattern Note) : Type 0 where
  pub last : p.last < columns
  pub mask : p.mask < 2 ^ columns
  pub notes : Each (λ n. n.column < columns) p.notes
  pub own : Own p.mask p.last
  pub listed : p.mask ≡ mask_from (λ n. n.column) 0 p.notes

module _ (g : HitObjectPatternGenerator) (some : 0 < g.columns) where
  abbrev T : ℕ
  T = g.columns

  empty_deck : Deck T empty
  unfolding empty mask_from
  empty_deck = record { last = some; mask = pow_pos T; notes = tt; own = inl (refl, refl); listed = refl }

  put_deck : (c : ℕ) (p : Pattern Note) → c < T → Deck T p → Deck T (put (circle c g.start) c p)
  unfolding put circle
  put_deck c p l h = record { last = l; mask = or_lt T p.mask (2 ^ c) h.mask (pow-lt l); notes = each_snoc _ p.notes _ h.notes l; own = inr (or_own p.mask c); listed = ap (λ (m : ℕ). bit_or m (2 ^ c)) h.listed ∙ sym (mask_snoc _ 0 p.notes _) }

  note_deck : (c : ℕ) (p : Pattern Note) → Deck T p → Makes (Deck T) (HitObject.add_note g c p)
  unfolding HitObject.add_note add
  note_deck c p h = by (ltb c T) _ _ (λ e. giving (put_deck c p (ltb-true c T e) h)) (λ e. refusing)

  each_deck : (to : ℕ → ℕ) (n i : ℕ) (p : Pattern Note) → Deck T p → Makes (Deck T) (HitObject.add_each g to n i p)
  unfolding HitObject.add_each HitObject.add_one
  each_deck to zero i p h = giving h
  each_deck to (suc n) i p h = seq (by (free g.mask i) _ _ (λ e. giving h) (λ e. note_deck (to i) p h)) (λ q k. each_deck to n (suc i) q k)

  random_deck : (barred n c : ℕ) (p : Pattern Note) → Deck T p → Makes (Deck T) (HitObject.add_random g barred n c p)
  unfolding HitObject.add_random
  random_deck barred zero c p h = giving h
  random_deck barred (suc n) c p h = seq any (λ d u. seq (note_deck d p h) (λ q k. random_deck barred n d q k))

  notes_deck : (n : ℕ) → Makes (Deck T) (HitObject.generate_random_notes g n)
  unfolding HitObject.generate_random_notes
  notes_deck n = by (contains g.flags force_not_stack) _ _ (λ e. random_deck _ _ _ _ empty_deck) (λ e. random_deck _ _ _ _ empty_deck)

  special_deck : (p : Pattern Note) → Deck T p → Makes (Deck T) (HitObject.add_special g p)
  unfolding HitObject.add_special
  special_deck p h =
      by (ltb 0 (random_start T) && (has_flag g.sound clap && has_flag g.sound finish)) _ _ (λ e. note_deck 0 p h) (λ e. giving h)

  pattern_deck : (c : HitObject.Chances) → Makes (Deck T) (HitObject.generate_random_pattern g c)
  unfolding HitObject.generate_random_pattern
  pattern_deck c = seq any (λ n u. seq (notes_deck n) (λ p h. special_deck p h))

  mirror_deck : (n c : ℕ) (p : Pattern Note) → Deck T p → Makes (Deck T) (HitObject.add_mirrored g n c p)
  unfolding HitObject.add_mirrored HitObject.add_pair
  mirror_deck zero c p h = giving h
  mirror_deck (suc n) c p h = seq any (λ d u. seq (seq (note_deck d p h) (λ q k. note_deck _ q k)) (λ r l. mirror_deck n d r l))

  mirror_notes_deck : (m : HitObject.Mirrored) → Makes (Deck T) (HitObject.mirror_notes g m)
  unfolding HitObject.mirror_notes HitObject.mirror_from HitObject.add_centre
  mirror_notes_deck m =
      let centre = (HitObject.mirrored_chances T m).centre in
      seq any
      (λ v u. seq any
      (λ n u. seq any
      (λ c u. seq (mirror_deck n c empty empty_deck)
      (λ p h. seq (by (HitObject.at_centre T n centre (unit v)) _ _ (λ e. note_deck (T / 2) p h) (λ e. giving h)) (λ q k. special_deck q k)))))

  mirrored_deck : (m : HitObject.Mirrored) → Makes (Deck T) (HitObject.generate_random_pattern_with_mirrored g m)
  unfolding HitObject.generate_random_pattern_with_mirrored
  mirrored_deck m = by (contains g.flags force_not_stack) _ _ (λ e. pattern_deck _) (λ e. mirror_notes_deck m)

  reversed_deck : Makes (Deck T) (HitObject.reversed g)
  unfolding HitObject.reversed
  reversed_deck = each_deck _ _ _ _ empty_deck

  stacked_deck : Makes (Deck T) (HitObject.stacked g)
  unfolding HitObject.stacked
  stacked_deck = each_deck _ _ _ _ empty_deck

  core_deck : Makes (Deck T) (HitObject.generate_core g)
  unfolding HitObject.generate_core
  core_deck =
      by (eqb T 1) _ _ (λ e. note_deck _ _ empty_deck)
      (λ e. by (contains g.flags reverse && HitObject.some g) _ _ (λ e. reversed_deck)
      (λ e. by (HitObject.cycles g) _ _ (λ e. note_deck _ _ empty_deck)
      (λ e. by (contains g.flags force_stack && HitObject.some g) _ _ (λ e. stacked_deck)
      (λ e. by (HitObject.alone g && contains g.flags stair) _ _ (λ e. note_deck _ _ empty_deck)
      (λ e. by (HitObject.alone g && contains g.flags reverse_stair) _ _ (λ e. note_deck _ _ empty_deck)
      (λ e. by (contains g.flags keep_single) _ _ (λ e. notes_deck 1)
      (λ e. by (contains g.flags mirror) _ _ (λ e. mirrored_deck _)
      (λ e. pattern_deck _))))))))

  -- what the next object meets, and each note
  abbrev MadeOn : Made → Type 0
  MadeOn m = (m.last < T) × (m.mask < 2 ^ T) × Each (λ n. n.column < T) m.notes

  pub circle_makes : Makes MadeOn (HitObject.generate g)
  unfolding HitObject.generate
  circle_makes = seq core_deck (λ p h. giving (h.last, h.mask, h.notes))

  pub circle_owns : Makes (Owned T) (HitObject.generate g)
  unfolding HitObject.generate
  circle_owns = seq core_deck (λ p h. giving (record { mask = h.mask; last = h.last; own = h.own }))

  -- the mask is that of the notes' columns
  pub circle_listed : Makes (λ m. m.mask ≡ mask_from (λ n. n.column) 0 m.notes) (HitObject.generate g)
  unfolding HitObject.generate
  circle_listed = seq core_deck (λ p h. giving h.listed)

  pub circle_deck : (d : Draws) (m : Made) (e : Draws) → on (HitObject.generate g) d ≡ found m e → MadeOn m
  circle_deck d m e h = gives MadeOn (HitObject.generate g) circle_makes.made d m e h
