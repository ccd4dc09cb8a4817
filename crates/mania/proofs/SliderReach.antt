-- With 8 columns a slider leaves at most five columns, and not column 0 alone, where the previous pattern has at most five. Assumes nothing.
use Rattle.std.specs.Prelude.{if◌then◌else◌}
use mathlib.Core.Path.{◌≡◌, refl, sym, ap, ◌∙◌, subst}
use mathlib.Core.Logic.{◌⊎◌, inl, inr, ⊎_elim}
use Prim.Native.Nat.{ℕ, zero, suc, ◌+◌, ◌-◌, ◌^◌, ◌≤◌, ◌<◌, min}
use native.Mathlib.Nat.{add-zero}
use native.Mathlib.Omega.{arith}
use mathlib.Core.Bool.{Bool, true, false, ◌&&◌}
use mathlib.Core.List.{List, [], ◌∷◌, ◌++◌, map}
use lib.Dec.{eqb, leb, ltb, lit≤}
use lib.Bits.{bit_or}
use lib.Count.{ones, ones_in}
use lib.Ieee.{lt}
use lib.ListN.{length, length-append}
use borrow.Author.Tests.{eqb-true, ltb-true, ltb-false, leb-false}
use Rattle.random.specs.Generator.{between}
use Rattle.mania.specs.declared.SliderNote.{SliderNote}
use Rattle.mania.specs.declared.PathObjectPatternGenerator.{PathObjectPatternGenerator}
use Rattle.mania.specs.Steps.{double}
use Rattle.mania.specs.PatternType.{force_not_stack, contains}
use Rattle.mania.specs.Made.{Made}
use Rattle.mania.specs.Pattern.{Pattern, empty, put}
use Rattle.mania.specs.PatternGenerator.{random_start, get_column}
use Rattle.mania.specs.PathObject
use Rattle.mania.specs.Reached.{most, ReachedOf8}
use Rattle.mania.specs.Laws.Tests.{and_r}
use Rattle.mania.proofs.Makes.{Makes, any, giving, refusing, seq, less, by, added}
use Rattle.mania.proofs.Meets.{makes}
use Rattle.mania.proofs.Columns.{between_ge, start_le, find_draw, column_makes}
use Rattle.mania.proofs.Ones.{ones_put, Above, above_own, above_more, Beside, beside_not}
use Rattle.mania.proofs.NoteCounts.{none_zero, at_most_4}
use Rattle.mania.proofs.CircleEnds.{start_of}
use Rattle.mania.proofs.SliderEnds.{beside_count_law}

abbrev bar : ℕ → ℕ → ℕ → SliderNote
bar c start end = record { column = c; start = start; end = end }

-- ---- the notes that end with the slider

-- with a note more
ending_snoc : (end : ℕ) (bs : List SliderNote) (b : SliderNote) (p : Pattern SliderNote)
    → PathObject.ending end (bs ++ b ∷ []) p ≡ (if eqb b.end end then put b b.column (PathObject.ending end bs p) else PathObject.ending end bs p)
unfolding PathObject.ending
ending_snoc end [] b p = refl
ending_snoc end (a ∷ bs) b p = ending_snoc end bs b (if eqb a.end end then put a a.column p else p)

module _ (end : ℕ) where
  -- their mask
  abbrev last : Pattern SliderNote → ℕ
  last p = (PathObject.ending end p.notes empty).mask

  -- the pattern has no more columns than notes, and of the notes that end with the slider at most k; neither is column 0 alone
  record Held (k : ℕ) (p : Pattern SliderNote) : Type 0 where
    listed : ones p.mask ≤ length p.notes
    whole : Beside p.mask
    few : ones (last p) ≤ k
    ends : Beside (last p)

  none : Held 0 empty
  unfolding empty PathObject.ending ones ones_in
  none = record { listed = lit≤ tt; whole = inl refl; few = lit≤ tt; ends = inl refl }

  held_more : (k n : ℕ) (p : Pattern SliderNote) → k ≤ n → Held k p → Held n p
  held_more k n p l h = record { listed = h.listed; whole = h.whole; few = omega (arith, h.few); ends = h.ends }

  -- a column that may be put: it is above 0, or stands beside one that is, in the notes that end then too
  abbrev May : ℕ → ℕ → Pattern SliderNote → Type 0
  May c e p = (1 ≤ c) ⊎ (Above p.mask × (eqb e end ≡ true → Above (last p)))

  beside_put : (c : ℕ) (mask : ℕ) → (1 ≤ c) ⊎ Above mask → Above (bit_or mask (2 ^ c))
  beside_put c mask h = ⊎_elim (λ (l : 1 ≤ c). above_own mask c l) (λ (a : Above mask). above_more mask c a) h

  module _ (c s e : ℕ) (p : Pattern SliderNote) where
    abbrev after : Pattern SliderNote
    after = put (bar c s e) c p

    last_on : eqb e end ≡ true → last after ≡ bit_or (last p) (2 ^ c)
    unfolding put
    last_on h = ap (λ (q : Pattern SliderNote). q.mask) (ending_snoc end p.notes (bar c s e) empty) ∙ rw h

    last_off : eqb e end ≡ false → last after ≡ last p
    unfolding put
    last_off h = ap (λ (q : Pattern SliderNote). q.mask) (ending_snoc end p.notes (bar c s e) empty) ∙ rw h

    more_listed : ones p.mask ≤ length p.notes → ones after.mask ≤ length after.notes
    unfolding put
    more_listed h = omega (arith, ones_put p.mask c, length-append p.notes (bar c s e ∷ []))

    above_whole : May c e p → Above after.mask
    unfolding put
    above_whole h = beside_put c p.mask (⊎_elim (λ (l : 1 ≤ c). inl l) (λ a. inr a.0) h)

    above_ends : May c e p → eqb e end ≡ true → Above (last after)
    above_ends h t = subst Above (sym (last_on t)) (beside_put c (last p) (⊎_elim (λ (l : 1 ≤ c). inl l) (λ a. inr (a.1 t)) h))

    -- so another column may be put at the same time
    may_beside : (d : ℕ) → May c e p → May d e after
    may_beside d h = inr (above_whole h, above_ends h)

    -- it ends with the slider: one more
    put_on : (k : ℕ) → eqb e end ≡ true → May c e p → Held k p → Held (suc k) after
    put_on k t m h =
        record {
          listed = more_listed h.listed;
          whole = inr (above_whole m);
          few = omega (arith, ap ones (last_on t), ones_put (last p) c, h.few);
          ends = inr (above_ends m t);
        }

    -- it does not
    put_off : (k : ℕ) → eqb e end ≡ false → May c e p → Held k p → Held k after
    put_off k t m h =
        record {
          listed = more_listed h.listed;
          whole = inr (above_whole m);
          few = omega (arith, ap ones (last_off t), h.few);
          ends = subst Beside (sym (last_off t)) h.ends;
        }

    -- either way
    put_held : (k : ℕ) → May c e p → Held k p → Held (suc k) after
    put_held k m h = go (eqb e end) refl
      where
        go : (b : Bool) → eqb e end ≡ b → Held (suc k) after
        go true t = put_on k t m h
        go false t = held_more k (suc k) after (omega arith) (put_off k t m h)

  -- ---- rows at rising times

  -- up to the slider's end at most `base` notes end with it, and then at most `extra` more
  record Timed (base extra t : ℕ) (p : Pattern SliderNote) : Type 0 where
    early : t ≤ end → Held base p
    all : Held (base + extra) p

  -- the row at t has j notes so far; b tells whether t is the slider's end
  abbrev Row : Bool → ℕ → ℕ → ℕ → ℕ → Pattern SliderNote → Type 0
  Row true base extra j t p = Held (base + j) p
  Row false base extra j t p = Timed base extra t p

  enter : (b : Bool) (base extra t : ℕ) (p : Pattern SliderNote) → eqb t end ≡ b → Timed base extra t p → Row b base extra 0 t p
  enter true base extra t p e h = let z = eqb-true t end e in held_more base (base + 0) p (omega arith) (h.early (omega arith))
  enter false base extra t p e h = h

  put_row : (b : Bool) (base extra j t c : ℕ) (p : Pattern SliderNote) → eqb t end ≡ b → May c t p → Row b base extra j t p → Row b base extra (suc j) t (put (bar c t t) c p)
  put_row true base extra j t c p e m h = held_more (suc (base + j)) (base + suc j) _ (omega arith) (put_on c t t p (base + j) e m h)
  put_row false base extra j t c p e m h = record { early = λ l. put_off c t t p base e m (h.early l); all = put_off c t t p (base + extra) e m h.all }

  leave : (b : Bool) (base extra j t length : ℕ) (p : Pattern SliderNote) → eqb t end ≡ b → 0 < length → j ≤ extra → Row b base extra j t p → Timed base extra (t + length) p
  leave true base extra j t length p e l i h = let z = eqb-true t end e in record { early = λ k. absurd (omega arith); all = held_more (base + j) (base + extra) p (omega arith) h }
  leave false base extra j t length p e l i h = record { early = λ k. h.early (omega arith); all = h.all }

  start : (base extra t : ℕ) (p : Pattern SliderNote) → Held base p → Timed base extra t p
  start base extra t p h = record { early = λ l. h; all = held_more base (base + extra) p (omega arith) h }

module _ (g : PathObjectPatternGenerator) (eight : g.columns ≡ 8) (mask : g.mask < 2 ^ g.columns) (few : ones g.mask ≤ most) where
  abbrev T : ℕ
  T = g.columns

  abbrev E : ℕ
  E = g.end

  abbrev L : ℕ
  L = g.length

  low : random_start T ≡ 1
  low = (start_of T).0 eight

  own : 1 ≤ get_column g.x T
  own = omega (arith, low, start_le g.x T)

  drawn : (v : ℕ) → v < 2 ^ 31 → 1 ≤ between (random_start T) T v
  drawn v l = omega (arith, low, between_ge (random_start T) T v)

  find : (c taken : ℕ) → 1 ≤ c → Makes (λ d. 1 ≤ d) (PathObject.find_column g c taken)
  unfolding PathObject.find_column
  find c taken l = less (find_draw (λ d. 1 ≤ d) T (random_start T) T taken drawn c l) (λ d h. h.1)

  any_column_law : Makes (λ c. 1 ≤ c) (PathObject.any_column g)
  unfolding PathObject.any_column
  any_column_law = column_makes (λ c. 1 ≤ c) (random_start T) T drawn

  head : (flags : ℕ) → Makes (λ c. 1 ≤ c) (PathObject.head_column g flags)
  unfolding PathObject.head_column
  head flags = by (contains flags force_not_stack && ltb (ones g.mask) T) _ _ (λ e. find _ _ own) (λ e. giving own)

  note : {P : Pattern SliderNote → Type 0} (c s e : ℕ) (p : Pattern SliderNote) → P (put (bar c s e) c p) → Makes P (PathObject.add_slider_note g c s e p)
  unfolding PathObject.add_slider_note
  note c s e p h = added T (bar c s e) c p (λ on. h)

  -- ---- holds of the whole slider

  holds : (barred n c k : ℕ) (p : Pattern SliderNote) → 1 ≤ c → Held E k p → Makes (λ r. (1 ≤ r.0) × Held E (k + n) r.1) (PathObject.add_holds g barred n c p)
  unfolding PathObject.add_holds
  holds barred zero c k p l h = giving (l, held_more E k (k + 0) p (omega arith) h)
  holds barred (suc n) c k p l h =
      seq (find c _ l)
      (λ d i. seq (note d g.start g.end p (put_held E d g.start g.end p k (inl i) h))
      (λ q j. less (holds barred n d (suc k) q i j) (λ r m. (m.0, held_more E (suc k + n) (k + suc n) r.1 (omega arith) m.1))))

  hold_notes : (n : ℕ) → n ≤ 4 → Makes (Held E most) (PathObject.generate_random_hold_notes g n)
  unfolding PathObject.generate_random_hold_notes
  hold_notes n h =
      seq any_column_law
      (λ c l. seq (holds g.mask (min (T - random_start T - ones g.mask) n) c 0 empty l (none E))
      (λ r i. seq (holds 0 (n + ones g.mask - (T - random_start T)) r.0 _ r.1 i.0 i.1)
      (λ s j. giving (held_more E _ most s.1 (omega (arith, low)) j.1))))

  n_notes : (c : PathObject.Chances) → Makes (Held E most) (PathObject.generate_n_random_notes g c)
  unfolding PathObject.generate_n_random_notes
  n_notes c = seq (makes {Q = λ r. Unit {0}} (at_most_4 _ _ _ _ _ none_zero none_zero)) (λ n l. hold_notes n l)

  -- ---- rows

  -- of few notes
  row_few : (n time c k : ℕ) (p : Pattern SliderNote) → 1 ≤ c → Held E k p → Makes (Held E (k + n)) (PathObject.add_row g n time c p)
  unfolding PathObject.add_row
  row_few zero time c k p l h = giving (held_more E k (k + 0) p (omega arith) h)
  row_few (suc n) time c k p l h =
      seq (note c time time p (put_held E c time time p k (inl l) h))
      (λ q j. seq (find c (2 ^ c) l)
      (λ d i. less (row_few n (time + L) d (suc k) q i j) (λ r m. held_more E (suc k + n) (k + suc n) r (omega arith) m)))

  few_notes : (flags n : ℕ) → n ≤ 2 → Makes (Held E most) (PathObject.generate_random_notes g flags n)
  unfolding PathObject.generate_random_notes
  few_notes flags n h = seq (head flags) (λ c l. less (row_few n g.start c 0 empty l (none E)) (λ p k. held_more E (0 + n) most p (omega arith) k))

  -- of any number, at rising times
  module _ (lasts : 0 < L) where
    abbrev At : ℕ → Bool
    At time = eqb time E

    row : (n time c : ℕ) (p : Pattern SliderNote) → 1 ≤ c → Timed E 0 1 time p → Makes (Held E most) (PathObject.add_row g n time c p)
    unfolding PathObject.add_row
    row zero time c p l h = giving (held_more E 1 most p (lit≤ tt) h.all)
    row (suc n) time c p l h =
        seq {P = Row E (At time) 0 1 1 time} (note c time time p (put_row E (At time) 0 1 0 time c p refl (inl l) (enter E (At time) 0 1 time p refl h)))
        (λ q j. seq (find c (2 ^ c) l) (λ d i. row n (time + L) d q i (leave E (At time) 0 1 1 time L q refl lasts (lit≤ tt) j)))

    random_notes : (flags n : ℕ) → Makes (Held E most) (PathObject.generate_random_notes g flags n)
    unfolding PathObject.generate_random_notes
    random_notes flags n = seq (head flags) (λ c l. row n g.start c empty l (start E 0 1 g.start empty (none E)))

    stair : (n time c : ℕ) (up : Bool) (p : Pattern SliderNote) → 1 ≤ c → Timed E 0 1 time p → Makes (Held E most) (PathObject.add_stair g n time c up p)
    unfolding PathObject.add_stair
    stair zero time c up p l h = giving (held_more E 1 most p (lit≤ tt) h.all)
    stair (suc n) time c up p l h =
        seq {P = Row E (At time) 0 1 1 time} (note c time time p (put_row E (At time) 0 1 0 time c p refl (inl l) (enter E (At time) 0 1 time p refl h)))
        (λ q j. stair n (time + L) _ _ q (moved up) (leave E (At time) 0 1 1 time L q refl lasts (lit≤ tt) j))
      where
        climb : (b : Bool) → (b ≡ false → 2 ≤ c) → 1 ≤ (if b then c + 1 else c - 1)
        climb true k = omega arith
        climb false k = omega (arith, k refl)

        moved : (up : Bool) → 1 ≤ (if (if up then ltb c (T - 1) else leb c (random_start T)) then c + 1 else c - 1)
        moved true = climb (ltb c (T - 1)) (λ e. let z = ltb-false c (T - 1) e in omega arith)
        moved false = climb (leb c (random_start T)) (λ e. let z = leb-false c (random_start T) e in omega (arith, low))

    stair_notes : Makes (Held E most) (PathObject.generate_stair g)
    unfolding PathObject.generate_stair
    stair_notes = seq any (λ v u. stair _ _ _ _ empty own (start E 0 1 g.start empty (none E)))

    -- the second column of a row may be 0: the first one is not
    rows : (interval n time c : ℕ) (p : Pattern SliderNote) → 1 ≤ c → Timed E 0 2 time p → Makes (Held E most) (PathObject.add_rows g interval n time c p)
    unfolding PathObject.add_rows
    rows interval zero time c p l h = giving (held_more E 2 most p (lit≤ tt) h.all)
    rows interval (suc n) time c p l h =
        seq {P = λ q. Row E (At time) 0 2 1 time q × May E (PathObject.other_column T interval c) time q}
        (note c time time p (put_row E (At time) 0 2 0 time c p refl (inl l) (enter E (At time) 0 2 time p refl h), may_beside E c time time p _ (inl l)))
        (λ q j. seq {P = Timed E 0 2 (time + L)}
        (by (ltb 2 T) _ _
        (λ e. note _ time time q (leave E (At time) 0 2 2 time L _ refl lasts (lit≤ tt) (put_row E (At time) 0 2 1 time _ q refl j.1 j.0)))
        (λ e. giving (leave E (At time) 0 2 1 time L q refl lasts (lit≤ tt) j.0)))
        (λ r i. seq any_column_law (λ d m. rows interval n (time + L) d r m i)))

    multiple : Makes (Held E most) (PathObject.generate_random_multiple_notes g)
    unfolding PathObject.generate_random_multiple_notes
    multiple = seq any (λ v u. rows _ _ _ _ empty own (start E 0 2 g.start empty (none E)))

    -- ---- a hold with circles

    beside : (hold time j n c row : ℕ) (p : Pattern SliderNote) → 1 ≤ c → Row E (At time) 1 2 j time p
        → Makes (λ r. (1 ≤ r.0) × Row E (At time) 1 2 (j + n) time r.1) (PathObject.add_beside g hold time n c row p)
    unfolding PathObject.add_beside
    beside hold time j zero c row p l h = giving (l, subst (λ (x : ℕ). Row E (At time) 1 2 x time p) (sym (add-zero j)) h)
    beside hold time j (suc n) c row p l h =
        seq (find c _ l)
        (λ d i. seq {P = Row E (At time) 1 2 (suc j) time} (note d time time p (put_row E (At time) 1 2 j time d p refl (inl i) h))
        (λ q m. less (beside hold time (suc j) n d _ q i m) (λ r o. (o.0, subst (λ (x : ℕ). Row E (At time) 1 2 x time r.1) (next j n) o.1))))
      where
        next : (j n : ℕ) → suc j + n ≡ j + suc n
        next j n = omega arith

    besides : (hold : ℕ) (bare : Bool) (k n time c : ℕ) (p : Pattern SliderNote) → k ≤ 2 → 1 ≤ c → Timed E 1 2 time p → Makes (Held E most) (PathObject.add_besides g hold bare k n time c p)
    unfolding PathObject.add_besides
    besides hold bare k zero time c p i l h = giving (held_more E 3 most p (lit≤ tt) h.all)
    besides hold bare k (suc n) time c p i l h =
        seq (beside hold time 0 _ c 0 p l (enter E (At time) 1 2 time p refl h))
        (λ r m. besides hold bare k n (time + L) r.0 r.1 i m.0 (leave E (At time) 1 2 _ time L r.1 refl lasts (most (bare && eqb time g.start)) m.1))
      where
        most : (b : Bool) → 0 + (if b then 0 else k) ≤ 2
        most true = lit≤ tt
        most false = omega arith

    hold_and_normal : Makes (Held E most) (PathObject.generate_hold_and_normal_notes g)
    unfolding PathObject.generate_hold_and_normal_notes
    hold_and_normal =
        seq (head g.flags)
        (λ hold l. seq (note hold g.start g.end empty (put_held E hold g.start g.end empty 0 (inl l) (none E)))
        (λ p h. seq any_column_law
        (λ c i. seq (makes (beside_count_law (λ r. Unit {0}) tt g (omega arith) mask (λ b. tt)))
        (λ n j. besides hold _ (min n (T - 1)) _ _ c p (omega arith) i (start E 1 2 g.start p h)))))

  -- ---- tiles

  tiles : (end n time c k : ℕ) (p : Pattern SliderNote) → 1 ≤ c → Held E k p → Makes (Held E (k + n)) (PathObject.add_tiles g end n time c p)
  unfolding PathObject.add_tiles
  tiles end zero time c k p l h = giving (held_more E k (k + 0) p (omega arith) h)
  tiles end (suc n) time c k p l h =
      seq (find c _ l)
      (λ d i. seq (note d time end p (put_held E d time end p k (inl i) h))
      (λ q j. less (tiles end n (time + L) d (suc k) q i j) (λ r m. held_more E (suc k + n) (k + suc n) r (omega arith) m)))

  -- with fewer spans than six
  tiled : g.spans < PathObject.tile_limit T → Makes (Held E most) (PathObject.generate_tiled_hold_notes g)
  unfolding PathObject.generate_tiled_hold_notes PathObject.tile_limit
  tiled h = seq (head g.flags) (λ c l. less (tiles _ (min g.spans T) g.start c 0 empty l (none E)) (λ p k. held_more E _ most p (omega (arith, low)) k))

  -- ---- the branches

  spans : Makes (Held E most) (PathObject.generate_spans g)
  unfolding PathObject.generate_spans
  spans =
      by (leb L 90) _ _ (λ e. hold_notes 1 (lit≤ tt))
      (λ long. let lasts : 0 < L = omega (arith, leb-false L 90 long) in
      by (leb L 120) _ _ (λ e. random_notes lasts _ _)
      (λ e. by (leb L 160) _ _ (λ e. stair_notes lasts)
      (λ e. by (leb L 200 && lt (double 3 1) g.difficulty) _ _ (λ e. multiple lasts)
      (λ e. by (leb 4000 (E - g.start)) _ _ (λ e. n_notes _)
      (λ e. by (ltb 400 L && ltb g.spans (PathObject.tile_limit T)) _ _ (λ e. tiled (ltb-true g.spans _ (and_r (ltb 400 L) _ e))) (λ e. hold_and_normal lasts))))))

  span : Makes (Held E most) (PathObject.generate_span g)
  unfolding PathObject.generate_span
  span = by (leb L 110) _ _ (λ e. few_notes _ _ (two (leb 80 L))) (λ e. n_notes _)
    where
      two : (b : Bool) → (if b then 2 else 1) ≤ 2
      two true = lit≤ tt
      two false = lit≤ tt

  core : Makes (Held E most) (PathObject.generate_core g)
  unfolding PathObject.generate_core
  core = by (eqb T 1) _ _ (λ e. let z = eqb-true T 1 e in absurd (omega arith)) (λ e. by (ltb 1 g.spans) _ _ (λ e. spans) (λ e. span))

  split_reached : (p : Pattern SliderNote) → Held E most p → ReachedOf8 (PathObject.split g p).mask
  unfolding PathObject.split
  split_reached p h = go (eqb (length p.notes) 1) refl
    where
      alone : Made
      alone = record { notes = map PathObject.note_of p.notes; mask = p.mask; last = p.last; stair = g.stair }

      parted : Made
      parted =
          let q = PathObject.ending E p.notes empty in
          record { notes = map PathObject.note_of (PathObject.others E p.notes ++ q.notes); mask = q.mask; last = q.last; stair = g.stair }

      go : (t : Bool) → eqb (length p.notes) 1 ≡ t → ReachedOf8 (if t then alone else parted).mask
      go true e = let z = eqb-true (length p.notes) 1 e in record { few = omega (arith, h.listed); beside = beside_not p.mask h.whole }
      go false e = record { few = h.few; beside = beside_not _ h.ends }

  pub slider_reach : Makes (λ m. ReachedOf8 m.mask) (PathObject.generate g)
  unfolding PathObject.generate
  slider_reach = by (ltb PathObject.latest E) _ _ (λ e. refusing) (λ e. seq core (λ p h. giving (split_reached p h)))
