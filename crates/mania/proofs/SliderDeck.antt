-- The mask and the last column that a slider leaves lie on the deck, and that column is one of the mask's. Assumes nothing.
use Rattle.std.specs.Prelude.{if◌then◌else◌}
use mathlib.Core.Path.{◌≡◌, refl, sym, ap, ◌∙◌}
use mathlib.Core.Logic.{inl, inr}
use Prim.Native.Nat.{ℕ, zero, suc, ◌-◌, ◌^◌, ◌<◌}
use mathlib.Core.Bool.{Bool, true, false, ◌&&◌}
use mathlib.Core.List.{List, [], ◌∷◌, ◌++◌, map}
use lib.Dec.{eqb, leb, ltb}
use lib.Bits.{bit_or, or_lt}
use lib.Pow.{pow_pos, pow-lt}
use lib.Ieee.{lt}
use lib.ListN.{length}
use Rattle.mania.specs.declared.SliderNote.{SliderNote}
use Rattle.mania.specs.declared.PathObjectPatternGenerator.{PathObjectPatternGenerator}
use Rattle.mania.specs.Steps.{double}
use Rattle.mania.specs.Made.{Made}
use Rattle.mania.specs.Pattern.{Pattern, empty, put}
use Rattle.mania.specs.PathObject
use Rattle.mania.specs.Demand.{Each}
use Rattle.mania.proofs.Masks.{or_own}
use Rattle.mania.proofs.Ones.{Own, Owned, mask_from, mask_snoc}
use Rattle.mania.proofs.Makes.{Makes, any, giving, refusing, seq, less, by, added, each_snoc}

record Deck (columns : ℕ) (p : Pattern SliderNote) : Type 0 where
  last : p.last < columns
  mask : p.mask < 2 ^ columns
  notes : Each (λ b. b.column < columns) p.notes
  own : Own p.mask p.last
  listed : p.mask ≡ mask_from (λ b. b.column) 0 p.notes

put_deck : (columns : ℕ) (b : SliderNote) (p : Pattern SliderNote) → b.column < columns → Deck columns p → Deck columns (put b b.column p)
unfolding put
put_deck columns b p l h = record { last = l; mask = or_lt columns p.mask (2 ^ b.column) h.mask (pow-lt l); notes = each_snoc _ p.notes b h.notes l; own = inr (or_own p.mask b.column); listed = ap (λ (m : ℕ). bit_or m (2 ^ b.column)) h.listed ∙ sym (mask_snoc _ 0 p.notes b) }

empty_deck : (columns : ℕ) → 0 < columns → Deck columns empty
unfolding empty mask_from
empty_deck columns some = record { last = some; mask = pow_pos columns; notes = tt; own = inl (refl, refl); listed = refl }

-- the notes that end at the slider's end
ending_deck : (columns end : ℕ) (bs : List SliderNote) (p : Pattern SliderNote) → Each (λ b. b.column < columns) bs → Deck columns p → Deck columns (PathObject.ending end bs p)
unfolding PathObject.ending
ending_deck columns end [] p h k = k
ending_deck columns end (b ∷ bs) p h k = ending_deck columns end bs _ h.1 (go (eqb b.end end))
  where
    go : (t : Bool) → Deck columns (if t then put b b.column p else p)
    go true = put_deck columns b p h.0 k
    go false = k

module _ (g : PathObjectPatternGenerator) (some : 0 < g.columns) where
  abbrev T : ℕ
  T = g.columns

  first : Deck T empty
  first = empty_deck T some

  bar : (c s e : ℕ) (p : Pattern SliderNote) → Deck T p → Makes (Deck T) (PathObject.add_slider_note g c s e p)
  unfolding PathObject.add_slider_note
  bar c s e p h = added T (record { column = c; start = s; end = e }) c p (λ l. put_deck T (record { column = c; start = s; end = e }) p l h)

  holds : (barred n c : ℕ) (p : Pattern SliderNote) → Deck T p → Makes (λ r. Deck T r.1) (PathObject.add_holds g barred n c p)
  unfolding PathObject.add_holds
  holds barred zero c p h = giving h
  holds barred (suc n) c p h = seq any (λ d u. seq (bar d _ _ p h) (λ q k. holds barred n d q k))

  hold_notes : (n : ℕ) → Makes (Deck T) (PathObject.generate_random_hold_notes g n)
  unfolding PathObject.generate_random_hold_notes
  hold_notes n = seq any (λ c u. seq (holds _ _ c empty first) (λ r h. seq (holds _ _ _ r.1 h) (λ s k. giving k)))

  row : (n time c : ℕ) (p : Pattern SliderNote) → Deck T p → Makes (Deck T) (PathObject.add_row g n time c p)
  unfolding PathObject.add_row
  row zero time c p h = giving h
  row (suc n) time c p h = seq (bar c _ _ p h) (λ q k. seq any (λ d u. row n _ d q k))

  random_notes : (flags n : ℕ) → Makes (Deck T) (PathObject.generate_random_notes g flags n)
  unfolding PathObject.generate_random_notes
  random_notes flags n = seq any (λ c u. row n _ c empty first)

  stair : (n time c : ℕ) (up : Bool) (p : Pattern SliderNote) → Deck T p → Makes (Deck T) (PathObject.add_stair g n time c up p)
  unfolding PathObject.add_stair
  stair zero time c up p h = giving h
  stair (suc n) time c up p h = seq (bar c _ _ p h) (λ q k. stair n _ _ _ q k)

  stair_notes : Makes (Deck T) (PathObject.generate_stair g)
  unfolding PathObject.generate_stair
  stair_notes = seq any (λ v u. stair _ _ _ _ empty first)

  rows : (interval n time c : ℕ) (p : Pattern SliderNote) → Deck T p → Makes (Deck T) (PathObject.add_rows g interval n time c p)
  unfolding PathObject.add_rows
  rows interval zero time c p h = giving h
  rows interval (suc n) time c p h =
      seq (bar c _ _ p h) (λ q k. seq {P = Deck T} (by (ltb 2 T) _ _ (λ e. bar _ _ _ q k) (λ e. giving k)) (λ r l. seq any (λ d u. rows interval n _ d r l)))

  multiple : Makes (Deck T) (PathObject.generate_random_multiple_notes g)
  unfolding PathObject.generate_random_multiple_notes
  multiple = seq any (λ v u. rows _ _ _ _ empty first)

  n_notes : (c : PathObject.Chances) → Makes (Deck T) (PathObject.generate_n_random_notes g c)
  unfolding PathObject.generate_n_random_notes
  n_notes c = seq any (λ n u. hold_notes n)

  tiles : (end n time c : ℕ) (p : Pattern SliderNote) → Deck T p → Makes (Deck T) (PathObject.add_tiles g end n time c p)
  unfolding PathObject.add_tiles
  tiles end zero time c p h = giving h
  tiles end (suc n) time c p h = seq any (λ d u. seq (bar d _ _ p h) (λ q k. tiles end n _ d q k))

  tiled : Makes (Deck T) (PathObject.generate_tiled_hold_notes g)
  unfolding PathObject.generate_tiled_hold_notes
  tiled = seq any (λ c u. tiles _ _ _ c empty first)

  beside : (hold time n c row : ℕ) (p : Pattern SliderNote) → Deck T p → Makes (λ r. Deck T r.1) (PathObject.add_beside g hold time n c row p)
  unfolding PathObject.add_beside
  beside hold time zero c row p h = giving h
  beside hold time (suc n) c row p h = seq any (λ d u. seq (bar d _ _ p h) (λ q k. beside hold time n d _ q k))

  besides : (hold : ℕ) (bare : Bool) (k n time c : ℕ) (p : Pattern SliderNote) → Deck T p → Makes (Deck T) (PathObject.add_besides g hold bare k n time c p)
  unfolding PathObject.add_besides
  besides hold bare k zero time c p h = giving h
  besides hold bare k (suc n) time c p h = seq (beside hold time _ c 0 p h) (λ r i. besides hold bare k n _ r.0 r.1 i)

  hold_and_normal : Makes (Deck T) (PathObject.generate_hold_and_normal_notes g)
  unfolding PathObject.generate_hold_and_normal_notes
  hold_and_normal = seq any (λ hold u. seq (bar hold _ _ empty first) (λ p h. seq any (λ c u. seq any (λ n u. besides hold _ _ _ _ c p h))))

  spans : Makes (Deck T) (PathObject.generate_spans g)
  unfolding PathObject.generate_spans
  spans =
      by (leb g.length 90) _ _ (λ e. hold_notes 1)
      (λ e. by (leb g.length 120) _ _ (λ e. random_notes _ _)
      (λ e. by (leb g.length 160) _ _ (λ e. stair_notes)
      (λ e. by (leb g.length 200 && lt (double 3 1) g.difficulty) _ _ (λ e. multiple)
      (λ e. by (leb 4000 (g.end - g.start)) _ _ (λ e. n_notes _)
      (λ e. by (ltb 400 g.length && ltb g.spans (PathObject.tile_limit T)) _ _ (λ e. tiled) (λ e. hold_and_normal))))))

  span : Makes (Deck T) (PathObject.generate_span g)
  unfolding PathObject.generate_span
  span = by (leb g.length 110) _ _ (λ e. random_notes _ _) (λ e. n_notes _)

  core : Makes (Deck T) (PathObject.generate_core g)
  unfolding PathObject.generate_core
  core = by (eqb T 1) _ _ (λ e. bar 0 _ _ empty first) (λ e. by (ltb 1 g.spans) _ _ (λ e. spans) (λ e. span))

  -- the mask is that of the notes' columns
  pub core_listed : Makes (λ p. p.mask ≡ mask_from (λ b. b.column) 0 p.notes) (PathObject.generate_core g)
  core_listed = less core (λ p h. h.listed)

  -- what the next object meets
  abbrev Left : Made → Type 0
  Left m = (m.last < T) × (m.mask < 2 ^ T)

  split_deck : (p : Pattern SliderNote) → Deck T p → Owned T (PathObject.split g p)
  unfolding PathObject.split
  split_deck p h = go (eqb (length p.notes) 1)
    where
      q : Deck T (PathObject.ending g.end p.notes empty)
      q = ending_deck T g.end p.notes empty h.notes first

      alone : Made
      alone = record { notes = map PathObject.note_of p.notes; mask = p.mask; last = p.last; stair = g.stair }

      parted : Made
      parted =
          let q = PathObject.ending g.end p.notes empty in
          record { notes = map PathObject.note_of (PathObject.others g.end p.notes ++ q.notes); mask = q.mask; last = q.last; stair = g.stair }

      go : (t : Bool) → Owned T (if t then alone else parted)
      go true = record { mask = h.mask; last = h.last; own = h.own }
      go false = record { mask = q.mask; last = q.last; own = q.own }

  pub slider_owns : Makes (Owned T) (PathObject.generate g)
  unfolding PathObject.generate
  slider_owns = by (ltb PathObject.latest g.end) _ _ (λ e. refusing) (λ e. seq core (λ p h. giving (split_deck p h)))

  pub slider_makes : Makes Left (PathObject.generate g)
  slider_makes = less slider_owns (λ m h. (h.last, h.mask))
