-- No two notes of a slider share a lane, and B holds of each of its bars where it holds of those that can come. Assumes nothing.
use Rattle.std.specs.Prelude.{if◌then◌else◌}
use mathlib.Core.Path.{◌≡◌, refl, sym, subst}
use mathlib.Core.Logic.{◌⊎◌, inl, inr, ⊎_elim}
use Prim.Native.Nat.{ℕ, zero, suc, ◌+◌, ◌-◌, ◌*◌, ◌/◌, ◌^◌, ◌≤◌, ◌<◌, min}
use native.Mathlib.Nat.{le_refl, suc-mul, zero-mul, mul_comm, mul-le-mul_right, mod-lt, le_trans}
use native.Mathlib.Omega.{arith}
use mathlib.Core.Bool.{Bool, true, false, ◌&&◌}
use lib.Dec.{eqb, leb, ltb, lit≤}
use lib.Pow.{pow_pos}
use lib.Bits.{bit_or}
use lib.Count.{ones}
use lib.Ieee.{Float, lt}
use borrow.Author.Tests.{eqb-true, ltb-true, ltb-false, leb-true, leb-false}
use Rattle.random.specs.Generator.{between}
use Rattle.random.specs.Laws.Range.{between_lt}
use Rattle.rules.specs.Laws.Each.{each_map}
use Rattle.mania.specs.declared.SliderNote.{SliderNote}
use Rattle.mania.specs.declared.Note.{Note}
use Rattle.mania.specs.declared.PathObjectPatternGenerator.{PathObjectPatternGenerator}
use Rattle.mania.specs.Steps.{double}
use Rattle.mania.specs.PatternType.{force_not_stack, contains}
use Rattle.mania.specs.Pattern.{Pattern, empty, put}
use Rattle.mania.specs.PatternGenerator.{random_start}
use Rattle.mania.specs.PathObject
use Rattle.mania.specs.Demand.{Each, EveryTwo, Lanes}
use Rattle.mania.proofs.Masks.{bit, or_bit, or_left, or_own, or_free_left}
use Rattle.mania.proofs.Makes.{Makes, giving, refusing, seq, less, by, valued, added, each_snoc, two_snoc}
use Rattle.mania.proofs.Columns.{between_ge, find_draw, column_makes, counted}
use Rattle.mania.proofs.Bars.{Off, split_lanes, split_each}

abbrev pub Differ : SliderNote → SliderNote → Type 0
Differ a b = a.column ≡ b.column → ⊥

abbrev bar : ℕ → ℕ → ℕ → SliderNote
bar c start end = record { column = c; start = start; end = end }

module _ (B : SliderNote → Type 0) where
  abbrev Two : Pattern SliderNote → Type 0
  Two p = EveryTwo Off p.notes × Each B p.notes

  clash : (mask a b : ℕ) → bit mask a ≡ 1 → bit mask b ≡ 0 → a ≡ b → ⊥
  clash mask a b h g e = let z : bit mask b ≡ 1 = subst (λ (c : ℕ). bit mask c ≡ 1) e h in omega arith

  -- ---- holds, each on a column of its own

  pub record Good (p : Pattern SliderNote) : Type 0 where
    held : Each (λ b. bit p.mask b.column ≡ 1) p.notes
    pub own : EveryTwo Differ p.notes
    pub two : Two p

  good_empty : Good empty
  unfolding empty
  good_empty = record { held = tt; own = tt; two = (tt, tt) }

  good_put : (c start end : ℕ) (p : Pattern SliderNote) → B (bar c start end) → Good p → bit p.mask c ≡ 0 → Good (put (bar c start end) c p)
  unfolding put
  good_put c start end p b h f =
      record {
        held = each_snoc _ p.notes _ (each_map _ _ (λ b k. or_left p.mask (2 ^ c) b.column k) p.notes h.held) (or_own p.mask c);
        own = two_snoc Differ p.notes _ h.own (each_map _ _ (λ b k e. clash p.mask b.column c k f e) p.notes h.held);
        two = (two_snoc Off p.notes _ h.two.0 (each_map _ _ (λ b k e. absurd (clash p.mask b.column c k f e)) p.notes h.held), each_snoc B p.notes _ h.two.1 b);
      }

  -- ---- rows of circles, at rising times

  -- each bar is on a column of M, or a circle before t; and it is on a column of F, or a circle before the next time
  record Rows (F M : ℕ → Type 0) (t next : ℕ) (p : Pattern SliderNote) : Type 0 where
    fixed : Each (λ b. F b.column ⊎ ((b.start ≡ b.end) × (b.start < next))) p.notes
    taken : Each (λ b. M b.column ⊎ ((b.start ≡ b.end) × (b.start < t))) p.notes
    two : Two p

  abbrev None : ℕ → Type 0
  None c = ⊥

  abbrev Any : ℕ → Type 0
  Any c = Unit {0}

  abbrev Is : ℕ → ℕ → Type 0
  Is a c = c ≡ a

  rows_empty : (F M : ℕ → Type 0) (t next : ℕ) → Rows F M t next empty
  unfolding empty
  rows_empty F M t next = record { fixed = tt; taken = tt; two = (tt, tt) }

  module _ (F M N : ℕ → Type 0) (t next : ℕ) (more : (c : ℕ) → M c → N c) where
    rows_put : (c : ℕ) (p : Pattern SliderNote) → B (bar c t t) → Rows F M t next p → (M c → ⊥) → N c → t < next → t ≤ 2 ^ 53 → Rows F N t next (put (bar c t t) c p)
    unfolding put
    rows_put c p b h off own l small =
        record {
          fixed = each_snoc _ p.notes _ h.fixed (inr (refl, l));
          taken = each_snoc _ p.notes _ (each_map _ _ (λ b k. ⊎_elim (λ m. inl (more b.column m)) (λ i. inr i) k) p.notes h.taken) (inl own);
          two = (
            two_snoc Off p.notes _ h.two.0
                (each_map _ _ (λ b k e. ⊎_elim (λ m. absurd (off (subst M e m))) (λ i. (i.0, refl, i.1, small)) k) p.notes h.taken),
            each_snoc B p.notes _ h.two.1 b,
          );
        }

    rows_more : (p : Pattern SliderNote) → Rows F M t next p → Rows F N t next p
    rows_more p h =
        record {
          fixed = h.fixed;
          taken = each_map _ _ (λ b k. ⊎_elim (λ m. inl (more b.column m)) (λ i. inr i) k) p.notes h.taken;
          two = h.two;
        }

  -- on to the next time
  rows_next : (F M N : ℕ → Type 0) (t next length : ℕ) → ((c : ℕ) → F c → N c) → (p : Pattern SliderNote) → Rows F M t next p → Rows F N next (next + length) p
  rows_next F M N t next length f p h =
      record {
        fixed = each_map _ _ (λ b k. ⊎_elim (λ m. inl m) (λ i. inr (i.0, later b.start i.1)) k) p.notes h.fixed;
        taken = each_map _ _ (λ b k. ⊎_elim (λ m. inl (f b.column m)) (λ i. inr i) k) p.notes h.fixed;
        two = h.two;
      }
    where
      later : (s : ℕ) → s < next → s < next + length
      later s l = omega arith

  module _ (g : PathObjectPatternGenerator) (within : (c t e : ℕ) → c < g.columns → t ≤ e → e ≤ g.end → B (bar c t e))
      (whole : (c : ℕ) → c < g.columns → B (bar c g.start g.end)) (first : (c : ℕ) → c < g.columns → B (bar c g.start g.start))
      (late : g.end ≤ 2 ^ 53) where
    abbrev T : ℕ
    T = g.columns

    abbrev L : ℕ
    L = g.length

    search_makes : (c taken : ℕ) → Makes (λ d. (bit taken d ≡ 0) × Unit {0}) (PathObject.find_column g c taken)
    unfolding PathObject.find_column
    search_makes c taken = find_draw (λ d. Unit {0}) T (random_start T) T taken (λ v l. tt) c tt

    any_makes : Makes (λ c. Unit {0}) (PathObject.any_column g)
    unfolding PathObject.any_column
    any_makes = column_makes (λ c. Unit {0}) (random_start T) T (λ v l. tt)

    head_makes : (kind : ℕ) → Makes (λ c. Unit {0}) (PathObject.head_column g kind)
    unfolding PathObject.head_column
    head_makes kind =
        by (contains kind force_not_stack && ltb (ones g.mask) T) _ _ (λ e. less (search_makes _ _) (λ d h. tt)) (λ e. giving tt)

    -- ---- holds

    holds_good : (barred n c : ℕ) (p : Pattern SliderNote) → Good p → Makes (λ r. Good r.1) (PathObject.add_holds g barred n c p)
    unfolding PathObject.add_holds PathObject.add_slider_note
    holds_good barred zero c p h = giving h
    holds_good barred (suc n) c p h =
        seq (search_makes c (bit_or p.mask barred))
        (λ d k. seq (added T (bar d g.start g.end) d p (λ on. good_put d g.start g.end p (whole d on) h (or_free_left p.mask barred d k.0)))
        (λ q i. holds_good barred n d q i))

    pub hold_notes_good : (n : ℕ) → Makes Good (PathObject.generate_random_hold_notes g n)
    unfolding PathObject.generate_random_hold_notes
    hold_notes_good n =
        seq any_makes (λ c u. seq (holds_good _ _ c empty good_empty) (λ some h. seq (holds_good _ _ _ _ h) (λ all k. giving k)))

    hold_notes_two : (n : ℕ) → Makes Two (PathObject.generate_random_hold_notes g n)
    hold_notes_two n = less (hold_notes_good n) (λ p h. h.two)

    n_notes_two : (c : PathObject.Chances) → Makes Two (PathObject.generate_n_random_notes g c)
    unfolding PathObject.generate_n_random_notes
    n_notes_two c = seq (counted _ _ _ _ _) (λ n u. hold_notes_two n)

    tiles_good : (end n time c : ℕ) (p : Pattern SliderNote) → end ≤ g.end → ((k : ℕ) → k < n → time + k * L ≤ end) → Good p → Makes Good (PathObject.add_tiles g end n time c p)
    unfolding PathObject.add_tiles PathObject.add_slider_note
    tiles_good end zero time c p j s h = giving h
    tiles_good end (suc n) time c p j s h =
        seq (search_makes c p.mask)
        (λ d k. seq (added T (bar d time end) d p (λ on. good_put d time end p (within d time end on (here s) j) h k.0))
        (λ q i. tiles_good end n (time + L) d q j (next s) i))
      where
        here : ((k : ℕ) → k < suc n → time + k * L ≤ end) → time ≤ end
        here s = omega (arith, s 0 some, zero-mul L)
          where
            some : 0 < suc n
            some = omega arith

        next : ((k : ℕ) → k < suc n → time + k * L ≤ end) → (k : ℕ) → k < n → time + L + k * L ≤ end
        next s k l = omega (arith, s (suc k) up, suc-mul k L)
          where
            up : suc k < suc n
            up = omega arith

    pub tiled_good : g.start + L * g.spans ≤ g.end → Makes Good (PathObject.generate_tiled_hold_notes g)
    unfolding PathObject.generate_tiled_hold_notes
    tiled_good fits =
        seq (head_makes g.flags)
        (λ c u. tiles_good (g.start + L * g.spans) (min g.spans T) g.start c empty fits (λ k l. tile k (mul-le-mul_right L (fewer g.spans T k l)) (mul_comm g.spans L)) good_empty)
      where
        fewer : (a b k : ℕ) → k < min a b → k ≤ a
        fewer a b k l = omega arith

        tile : (k : ℕ) → k * L ≤ g.spans * L → g.spans * L ≡ L * g.spans → g.start + k * L ≤ g.start + L * g.spans
        tile k l e = omega arith

    -- ---- rows

    -- the times of n rows are not past the slider's end
    Small : ℕ → ℕ → Type 0
    Small n time = (k : ℕ) → k < n → time + k * L ≤ g.end

    small_here : (n time : ℕ) → Small (suc n) time → time ≤ g.end
    unfolding Small
    small_here n time h = omega (arith, h 0 (one n), zero-mul L)
      where
        one : (n : ℕ) → 0 < suc n
        one n = omega arith

    small_next : (n time : ℕ) → Small (suc n) time → Small n (time + L)
    unfolding Small
    small_next n time h k l = omega (arith, h (suc k) (up k l), suc-mul k L)
      where
        up : (k : ℕ) → k < n → suc k < suc n
        up k l = omega arith

    module _ (lasts : 0 < L) where
      after : (time : ℕ) → time < time + L
      after time = omega arith

      f64 : (t : ℕ) → t ≤ g.end → t ≤ 2 ^ 53
      f64 t h = le_trans h late

      row_two : (n time c : ℕ) (p : Pattern SliderNote) → Small n time → Rows None None time (time + L) p → Makes Two (PathObject.add_row g n time c p)
      unfolding PathObject.add_row PathObject.add_slider_note
      row_two zero time c p s h = giving h.two
      row_two (suc n) time c p s h =
          seq (added T (bar c time time) c p (λ on. rows_put None None Any time (time + L) (λ c m. tt) c p (within c time time on (le_refl time) (small_here n time s)) h (λ m. m) tt (after time) (f64 time (small_here n time s))))
          (λ q i. seq (search_makes c (2 ^ c))
          (λ d k. row_two n (time + L) d q (small_next n time s) (rows_next None Any None time (time + L) L (λ c f. f) q i)))

      stair_two : (n time c : ℕ) (up : Bool) (p : Pattern SliderNote) → Small n time → Rows None None time (time + L) p → Makes Two (PathObject.add_stair g n time c up p)
      unfolding PathObject.add_stair PathObject.add_slider_note
      stair_two zero time c up p s h = giving h.two
      stair_two (suc n) time c up p s h =
          seq (added T (bar c time time) c p (λ on. rows_put None None Any time (time + L) (λ c m. tt) c p (within c time time on (le_refl time) (small_here n time s)) h (λ m. m) tt (after time) (f64 time (small_here n time s))))
          (λ q i. stair_two n (time + L) _ _ q (small_next n time s) (rows_next None Any None time (time + L) L (λ c f. f) q i))

      -- two circles in a row: the second is on another column
      module _ (interval : ℕ) (other : (c : ℕ) → 2 < T → PathObject.other_column T interval c ≡ c → ⊥) where
        rows_two : (n time c : ℕ) (p : Pattern SliderNote) → Small n time → Rows None None time (time + L) p → Makes Two (PathObject.add_rows g interval n time c p)
        unfolding PathObject.add_rows PathObject.add_slider_note
        rows_two zero time c p s h = giving h.two
        rows_two (suc n) time c p s h =
            seq (added T (bar c time time) c p (λ on. rows_put None None (Is c) time (time + L) (λ c m. absurd m) c p (within c time time on (le_refl time) (small_here n time s)) h (λ m. m) refl (after time) (f64 time (small_here n time s))))
            (λ q i. seq {P = Rows None Any time (time + L)}
            (by (ltb 2 T) _ _
            (λ e. added T (bar (PathObject.other_column T interval c) time time) (PathObject.other_column T interval c) q
            (λ on. rows_put None (Is c) Any time (time + L) (λ c m. tt) (PathObject.other_column T interval c) q
            (within (PathObject.other_column T interval c) time time on (le_refl time) (small_here n time s)) i (other c (ltb-true 2 T e)) tt (after time) (f64 time (small_here n time s))))
            (λ e. giving (rows_more None (Is c) Any time (time + L) (λ c m. tt) q i)))
            (λ r j. seq any_makes
            (λ d u. rows_two n (time + L) d r (small_next n time s) (rows_next None Any None time (time + L) L (λ c f. f) r j))))

      -- ---- a hold with circles beside it

      module _ (hold : ℕ) where
        abbrev M : ℕ → ℕ → Type 0
        M row c = bit (bit_or row (2 ^ hold)) c ≡ 1

        m_more : (row d c : ℕ) → M row c → M (bit_or row (2 ^ d)) c
        m_more row d c h =
            omega (arith, h, or_bit row (2 ^ hold) c, or_bit (bit_or row (2 ^ d)) (2 ^ hold) c, or_bit row (2 ^ d) c, mod-lt (2 ^ d / 2 ^ c) (pow_pos 1), mod-lt (row / 2 ^ c) (pow_pos 1), mod-lt (2 ^ hold / 2 ^ c) (pow_pos 1))

        m_own : (row d : ℕ) → M (bit_or row (2 ^ d)) d
        m_own row d = or_left (bit_or row (2 ^ d)) (2 ^ hold) d (or_own row d)

        off : (row d : ℕ) → bit (bit_or row (2 ^ hold)) d ≡ 0 → M row d → ⊥
        off row d z m = omega arith

        beside_rows : (time n c row : ℕ) (p : Pattern SliderNote) → time ≤ g.end → Rows (Is hold) (M row) time (time + L) p
            → Makes (λ r. Rows (Is hold) Any time (time + L) r.1) (PathObject.add_beside g hold time n c row p)
        unfolding PathObject.add_beside PathObject.add_slider_note
        beside_rows time zero c row p s h = giving (rows_more (Is hold) (M row) Any time (time + L) (λ c m. tt) p h)
        beside_rows time (suc n) c row p s h =
            seq (search_makes c (bit_or row (2 ^ hold)))
            (λ d k. seq (added T (bar d time time) d p
            (λ on. rows_put (Is hold) (M row) (M (bit_or row (2 ^ d))) time (time + L) (m_more row d) d p (within d time time on (le_refl time) s) h (off row d k.0) (m_own row d) (after time) (f64 time s)))
            (λ q i. beside_rows time n d (bit_or row (2 ^ d)) q s i))

        is_m : (c : ℕ) → Is hold c → M 0 c
        is_m c e = subst (M 0) (sym e) (or_own 0 hold)

        besides_two : (bare : Bool) (k n time c : ℕ) (p : Pattern SliderNote) → Small n time → Rows (Is hold) (M 0) time (time + L) p → Makes Two (PathObject.add_besides g hold bare k n time c p)
        unfolding PathObject.add_besides
        besides_two bare k zero time c p s h = giving h.two
        besides_two bare k (suc n) time c p s h =
            seq (beside_rows time _ c 0 p (small_here n time s) h)
            (λ row i. besides_two bare k n (time + L) row.0 row.1 (small_next n time s) (rows_next (Is hold) Any (M 0) time (time + L) L is_m row.1 i))

    -- ---- all branches

    one_counted : (p2 : Float) → Makes (λ n. Unit {0}) (PathObject.one_or_two p2)
    unfolding PathObject.one_or_two
    one_counted p2 = counted _ _ _ _ _

    beside_counted : Makes (λ n. Unit {0}) (PathObject.beside_count g)
    unfolding PathObject.beside_count
    beside_counted =
        by (lt (double 65 10) g.difficulty) _ _ (λ e. one_counted _)
        (λ e. by (lt (double 4 1) g.difficulty) _ _ (λ e. one_counted _)
        (λ e. by (lt (double 25 10) g.difficulty) _ _ (λ e. one_counted _) (λ e. giving tt)))

    hold_and_normal_two : 0 < L → Small (g.spans + 1) g.start → Makes Two (PathObject.generate_hold_and_normal_notes g)
    unfolding PathObject.generate_hold_and_normal_notes PathObject.add_slider_note put empty
    hold_and_normal_two l s =
        seq (head_makes g.flags)
        (λ hold u. seq {P = Rows (Is hold) (M l hold 0) g.start (g.start + L)}
        (added T (bar hold g.start g.end) hold empty
        (λ on. record { fixed = (inl refl, tt); taken = (inl (or_own 0 hold), tt); two = ((tt, tt), (whole hold on, tt)) }))
        (λ p h. seq any_makes
        (λ c u. seq beside_counted (λ n u. besides_two l hold _ _ _ _ c p s h))))

    stair_notes_two : 0 < L → Small (g.spans + 1) g.start → Makes Two (PathObject.generate_stair g)
    unfolding PathObject.generate_stair
    stair_notes_two l s = seq valued (λ v u. stair_two l _ _ _ _ empty s (rows_empty None None _ _))

    -- the special column is one of 8, and 8 columns are legacy
    low_legacy : random_start T ≤ PathObject.legacy T
    unfolding random_start PathObject.legacy
    low_legacy = go (eqb T 8) refl
      where
        eight : (n : ℕ) → n ≡ 8 → 1 ≤ (if leb 4 n && leb n 8 then 1 else 0)
        eight n e = subst (λ (n : ℕ). 1 ≤ (if leb 4 n && leb n 8 then 1 else 0)) (sym e) (lit≤ tt)

        go : (b : Bool) → eqb T 8 ≡ b → (if b then 1 else 0) ≤ (if leb 4 T && leb T 8 then 1 else 0)
        go true e = eight T (eqb-true T 8 e)
        go false e = omega arith

    legacy_le : PathObject.legacy T ≤ 1
    unfolding PathObject.legacy
    legacy_le = go (leb 4 T && leb T 8)
      where
        go : (b : Bool) → (if b then 1 else 0) ≤ 1
        go true = omega arith
        go false = omega arith

    -- the second column of a row is another one: it lies above, or T − interval − legacy below
    other_column_law : (interval c : ℕ) → 1 ≤ interval → interval + PathObject.legacy T < T → PathObject.other_column T interval c ≡ c → ⊥
    unfolding PathObject.other_column
    other_column_law interval c h k e = go (ltb (c + interval) (T - random_start T)) refl e
      where
        up : (i low : ℕ) → 1 ≤ i → c + i + low ≡ c → ⊥
        up i low h e = omega arith

        down : (i legacy low : ℕ) → 1 ≤ i → i + legacy < T → low ≤ legacy → T - low ≤ c + i → c + i + legacy - T ≡ c → ⊥
        down i legacy low h k l m e = omega arith

        go : (b : Bool) → ltb (c + interval) (T - random_start T) ≡ b
            → (if b then c + interval + random_start T else c + interval + PathObject.legacy T - T) ≡ c → ⊥
        go true q e = up interval (random_start T) h e
        go false q e = down interval (PathObject.legacy T) (random_start T) h k low_legacy (ltb-false (c + interval) (T - random_start T) q) e

    multiple_two : 0 < L → Small (g.spans + 1) g.start → Makes Two (PathObject.generate_random_multiple_notes g)
    unfolding PathObject.generate_random_multiple_notes
    multiple_two l s =
        seq valued
        (λ v u. rows_two l (between 1 (T - PathObject.legacy T) v)
        (λ c t. other_column_law (between 1 (T - PathObject.legacy T) v) c (between_ge 1 (T - PathObject.legacy T) v)
        (fits (PathObject.legacy T) (between 1 (T - PathObject.legacy T) v) legacy_le t (between_lt u (room (PathObject.legacy T) legacy_le t))))
        (g.spans + 1) g.start _ empty s (rows_empty None None _ _))
      where
        room : (k : ℕ) → k ≤ 1 → 2 < T → 1 < T - k
        room k h t = omega arith

        fits : (k i : ℕ) → k ≤ 1 → 2 < T → i < T - k → i + k < T
        fits k i h t l = omega arith

    row_notes_two : 0 < L → (kind n : ℕ) → Small n g.start → Makes Two (PathObject.generate_random_notes g kind n)
    unfolding PathObject.generate_random_notes
    row_notes_two l kind n s = seq (head_makes kind) (λ c u. row_two l n g.start c empty s (rows_empty None None _ _))

    -- one circle alone
    one_two : (kind : ℕ) → Makes Two (PathObject.generate_random_notes g kind 1)
    unfolding PathObject.generate_random_notes PathObject.add_row PathObject.add_slider_note put empty
    one_two kind =
        seq (head_makes kind)
        (λ c u. seq {P = Two} (added T (bar c g.start g.start) c empty (λ on. ((tt, tt), (first c on, tt)))) (λ q h. seq (search_makes c (2 ^ c)) (λ d k. giving h)))

    positive : (n : ℕ) → leb L n ≡ false → 0 < L
    positive n e = let h = leb-false L n e in omega arith

    spans_two : ((0 < L) → g.start + L * g.spans ≤ g.end) → ((0 < L) → Small (g.spans + 1) g.start) → Makes Two (PathObject.generate_spans g)
    unfolding PathObject.generate_spans
    spans_two fits s =
        by (leb L 90) _ _ (λ e. hold_notes_two _)
        (λ long. let l = positive 90 long in
        by (leb L 120) _ _ (λ e. row_notes_two l _ _ (s l))
        (λ e. by (leb L 160) _ _ (λ e. stair_notes_two l (s l))
        (λ e. by (leb L 200 && lt (double 3 1) g.difficulty) _ _ (λ e. multiple_two l (s l))
        (λ e. by (leb 4000 (g.end - g.start)) _ _ (λ e. n_notes_two _)
        (λ e. by (ltb 400 L && ltb g.spans (PathObject.tile_limit T)) _ _ (λ e. less (tiled_good (fits l)) (λ p h. h.two)) (λ e. hold_and_normal_two l (s l)))))))

    span_two : ((0 < L) → Small 2 g.start) → Makes Two (PathObject.generate_span g)
    unfolding PathObject.generate_span
    span_two s = by (leb L 110) _ _ (λ e. go (leb 80 L) refl _) (λ e. n_notes_two _)
      where
        eighty : (n : ℕ) → 80 ≤ n → 0 < n
        eighty n h = omega arith

        go : (b : Bool) → leb 80 L ≡ b → (kind : ℕ) → Makes Two (PathObject.generate_random_notes g kind (if b then 2 else 1))
        go true e kind = let l = eighty L (leb-true 80 L e) in row_notes_two l kind 2 (s l)
        go false e kind = one_two kind

    small_fewer : (n m time : ℕ) → m ≤ n → Small n time → Small m time
    unfolding Small
    small_fewer n m time h s k l = s k (inside k l)
      where
        inside : (k : ℕ) → k < m → k < n
        inside k l = omega arith

    core_two : 1 ≤ g.spans → ((0 < L) → g.start + L * g.spans ≤ g.end) → ((0 < L) → Small (g.spans + 1) g.start) → Makes Two (PathObject.generate_core g)
    unfolding PathObject.generate_core PathObject.add_slider_note put empty
    core_two some fits s =
        by (eqb T 1) _ _ (λ e. added T (bar 0 g.start g.end) 0 empty (λ on. ((tt, tt), (whole 0 on, tt))))
        (λ e. by (ltb 1 g.spans) _ _ (λ e. spans_two fits s) (λ e. span_two (λ l. small_fewer (g.spans + 1) 2 g.start two_le (s l))))
      where
        two_le : 2 ≤ g.spans + 1
        two_le = omega arith

    -- the spans lie before the end
    fits_small : (0 < L → g.start + L * g.spans ≤ g.end) → 0 < L → Small (g.spans + 1) g.start
    unfolding Small
    fits_small fits l k h =
        let last : k * L ≤ g.spans * L = mul-le-mul_right L (inside k h) in
        let swap : g.spans * L ≡ L * g.spans = mul_comm g.spans L in
        omega (arith, fits l)
      where
        inside : (k : ℕ) → k < g.spans + 1 → k ≤ g.spans
        inside k h = omega arith

    pub bars_two : 1 ≤ g.spans → (0 < L → g.start + L * g.spans ≤ g.end) → Makes Two (PathObject.generate_core g)
    bars_two some fits = core_two some fits (fits_small fits)

-- Of a slider that does not end too late, P holds of each note where it holds of those of the bars that can come.
module _ (g : PathObjectPatternGenerator) (P : Note → Type 0)
    (within : (c t e : ℕ) → c < g.columns → t ≤ e → e ≤ g.end → g.end ≤ PathObject.latest → P (PathObject.note_of (bar c t e)))
    (whole : (c : ℕ) → c < g.columns → g.end ≤ PathObject.latest → P (PathObject.note_of (bar c g.start g.end)))
    (first : (c : ℕ) → c < g.columns → g.end ≤ PathObject.latest → P (PathObject.note_of (bar c g.start g.start))) where
  pub slider_lanes : 1 ≤ g.spans → (0 < g.length → g.start + g.length * g.spans ≤ g.end)
      → Makes (λ made. Lanes made.notes × Each P made.notes) (PathObject.generate g)
  unfolding PathObject.generate
  slider_lanes some fits =
      by (ltb PathObject.latest g.end) _ _ (λ e. refusing)
      (λ e. let h = ltb-false PathObject.latest g.end e in
      seq (bars_two (λ b. P (PathObject.note_of b)) g (λ c t e l k m. within c t e l k m h) (λ c l. whole c l h) (λ c l. first c l h) (le_trans h (lit≤ tt)) some fits)
      (λ p k. giving (split_lanes g p k.0, split_each g P p k.1)))
