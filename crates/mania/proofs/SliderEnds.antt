-- What a slider, and a spinner or hold, is refused by: a late end, or a search that the previous pattern leaves no column. Assumes nothing.
use Rattle.std.specs.Prelude.{if◌then◌else◌}
use mathlib.Core.Path.{◌≡◌, refl, sym, ap, subst}
use Prim.Native.Nat.{ℕ, zero, suc, ◌+◌, ◌-◌, ◌^◌, ◌≤◌, ◌<◌, min}
use native.Mathlib.Nat.{le_trans}
use native.Mathlib.Omega.{arith}
use mathlib.Core.Bool.{Bool, true, false, ◌&&◌}
use lib.Dec.{eqb, leb, ltb, lit≤}
use lib.Bits.{bit_or, or_zero_l, or_zero_r}
use lib.Count.{ones, ones-le}
use lib.Ieee.{Float, round, sub, lt}
use borrow.Author.Tests.{eqb-true, eqb-false, ltb-true, leb-true}
use Rattle.rules.specs.Refusal.{Refusal, late_end, no_column, ObjectRule, long_search}
use Rattle.random.specs.Generator.{between}
use Rattle.random.specs.Laws.Range.{between_lt}
use Rattle.model.specs.declared.Object.{Object}
use Rattle.mania.specs.declared.PrevValues.{PrevValues}
use Rattle.mania.specs.declared.SliderNote.{SliderNote}
use Rattle.mania.specs.declared.PathObjectPatternGenerator.{PathObjectPatternGenerator}
use Rattle.floats.specs.Least.{least}
use Rattle.mania.specs.Steps.{double}
use Rattle.model.specs.Sound.{finish, has_flag}
use Rattle.mania.specs.PatternType.{force_not_stack, contains}
use Rattle.mania.specs.Pattern.{Pattern, any_free, empty, put}
use Rattle.mania.specs.PatternGenerator.{random_start, get_column, get_random_note_count, find_available_column}
use Rattle.mania.specs.declared.Next.TheVariants.{Draw}
use Rattle.mania.specs.PathObject
use Rattle.mania.specs.EndTimeObject
use Rattle.mania.specs.Laws.Tests.{and_r}
use Rattle.mania.proofs.Meets.{Meets, giving, refusing, seq, by, less, valued, added}
use Rattle.mania.proofs.Frees.{frees, all_free, frees_one, frees_put, frees_put_in, other_bit, room}
use Rattle.mania.proofs.Searching.{In, FreeIn, search, search_in, any_in}
use Rattle.mania.proofs.NoteCounts.{None, none_zero, at_most_2, at_most_3, at_most_4}
use Rattle.mania.proofs.CircleEnds.{start_of, two_columns, own_column}

-- ---- chances

-- with 2 columns no chance of three notes, with 3 none of four
record Rare (c : PathObject.Chances) : Type 0 where
  p3_none : None (least c.p3 (double 0 100))
  p4_none : None (least c.p4 (double 0 100))

if_rare : (b : Bool) (c d : PathObject.Chances) → Rare c → Rare d → Rare (if b then c else d)
if_rare true c d h k = h
if_rare false c d h k = k

percent_rare : (a b c : ℕ) → None (least (double b 100) (double 0 100)) → None (least (double c 100) (double 0 100)) → Rare (PathObject.percent a b c)
unfolding PathObject.percent
percent_rare a b c h k = record { p3_none = h; p4_none = k }

rows_rare : (difficulty : Float) (rare : Bool) → Rare (PathObject.chances_by difficulty rare)
unfolding PathObject.chances_by round sub lt least
rows_rare difficulty rare =
    if_rare (lt (double 65 10) difficulty) _ _ (if_rare rare _ _ (percent_rare 78 30 0 refl refl) (percent_rare 85 36 3 refl refl))
    (if_rare (lt (double 4 1) difficulty) _ _ (if_rare rare _ _ (percent_rare 43 8 0 refl refl) (percent_rare 56 18 0 refl refl))
    (if_rare (lt (double 25 10) difficulty) _ _ (if_rare rare _ _ (percent_rare 30 0 0 refl refl) (percent_rare 37 8 0 refl refl))
    (if_rare rare _ _ (percent_rare 17 0 0 refl refl) (percent_rare 27 0 0 refl refl))))

long_rare : Rare (PathObject.percent 23 0 0)
unfolding round sub lt least
long_rare = percent_rare 23 0 0 refl refl

-- ---- a slider

-- the previous pattern has each column that a search may give, and does not fill the deck
abbrev pub Blocked : ℕ → ℕ → Type 0
Blocked mask columns = (any_free mask (random_start columns) (columns - random_start columns) ≡ false) × (ones mask ≡ columns → ⊥)

module _ (Q : Refusal → Type 0) (long : Q long_search) (g : PathObjectPatternGenerator) (some : 2 ≤ g.columns) (mask : g.mask < 2 ^ g.columns) (nine : Blocked g.mask g.columns → Q no_column) where
  abbrev T : ℕ
  T = g.columns

  abbrev low : ℕ
  low = random_start T

  abbrev Any : Pattern SliderNote → Type 0
  Any p = Unit {0}

  abbrev On : ℕ → Type 0
  On c = In low T c

  above : low < T
  above = omega (arith, two_columns T some)

  bar : {P : Pattern SliderNote → Type 0} (c s e : ℕ) (p : Pattern SliderNote) → c < T → P (put (record { column = c; start = s; end = e }) c p) → Meets Q P (PathObject.add_slider_note g c s e p)
  unfolding PathObject.add_slider_note
  bar c s e p l h = added T (record { column = c; start = s; end = e }) c p l h

  any_column_law : Meets Q On (PathObject.any_column g)
  unfolding PathObject.any_column
  any_column_law = any_in Q long low T 0 above

  find : (c taken : ℕ) → On c → 0 < frees taken low (T - low) → Meets Q (FreeIn taken low T) (PathObject.find_column g c taken)
  unfolding PathObject.find_column
  find c taken h k = search_in Q long low T taken above T c h k

  -- the head: off the previous pattern
  head : (flags : ℕ) → Meets Q On (PathObject.head_column g flags)
  unfolding PathObject.head_column PathObject.find_column
  head flags =
      by (contains flags force_not_stack && ltb (ones g.mask) T) _ _
      (λ e. let few = ltb-true (ones g.mask) T (and_r (contains flags force_not_stack) (ltb (ones g.mask) T) e) in
      less (search Q long low T g.mask above T (get_column g.x T) (own_column g.x T (omega arith)) (λ c f. nine (f, λ z. omega arith))) (λ d h. h.1) (λ r q. q))
      (λ e. giving (own_column g.x T (omega arith)))

  -- ---- holds of the whole slider

  holds : (barred n c : ℕ) (p : Pattern SliderNote) → On c → n ≤ frees (bit_or p.mask barred) low (T - low)
      → Meets Q (λ r. On r.0 × (frees p.mask low (T - low) ≤ frees r.1.mask low (T - low) + n)) (PathObject.add_holds g barred n c p)
  unfolding PathObject.add_holds put
  holds barred zero c p h k = giving (h, omega arith)
  holds barred (suc n) c p h k =
      seq (find c (bit_or p.mask barred) h (omega arith))
      (λ d i. seq {P = λ q. q.mask ≡ bit_or p.mask (2 ^ d)} (bar d g.start g.end p i.1.1 refl)
      (λ q e. less
      (holds barred n d q i.1 (subst (λ (x : ℕ). n ≤ frees (bit_or x barred) low (T - low)) (sym e) (omega (arith, frees_put_in p.mask barred d low (T - low)))))
      (λ r j. (j.0, sum (frees r.1.mask low (T - low)) (frees q.mask low (T - low)) j.1 (ap (λ (x : ℕ). frees x low (T - low)) e) (frees_put p.mask d low (T - low)))) (λ r q. q)))
    where
      sum : {a b : ℕ} (c d : ℕ) → d ≤ c + n → d ≡ b → a ≤ b + 1 → a ≤ c + suc n
      sum c d h e k = omega arith

  hold_notes : (n : ℕ) → n + low ≤ T - low → Meets Q Any (PathObject.generate_random_hold_notes g n)
  unfolding PathObject.generate_random_hold_notes empty
  hold_notes n h =
      let taken = ones g.mask in
      let most : taken ≤ T = ones-le T g.mask mask in
      let wide = two_columns T some in
      seq any_column_law
      (λ c i. seq (holds g.mask (min (T - low - taken) n) c empty i (rw (or_zero_l g.mask) (first (omega arith))))
      (λ r j. seq (holds 0 (n + taken - (T - low)) r.0 r.1 j.0 (rw (or_zero_r r.1.mask) (second (frees r.1.mask low (T - low)) most j.1)))
      (λ s k. giving tt)))
    where
      first : (min (T - low - ones g.mask) n ≤ T - low - ones g.mask) → min (T - low - ones g.mask) n ≤ frees g.mask low (T - low)
      first h = le_trans h (room g.mask low (T - low))

      second : (k : ℕ) → ones g.mask ≤ T → frees 0 low (T - low) ≤ k + min (T - low - ones g.mask) n → n + ones g.mask - (T - low) ≤ k
      second k m j = omega (arith, all_free low (T - low), two_columns T some)

  caps_two : T ≡ 2 → (c : PathObject.Chances) → Rare c → None (PathObject.capped T c).p3 × None (PathObject.capped T c).p4
  unfolding PathObject.capped PathObject.caps PathObject.percent
  caps_two e c h = subst (λ (t : ℕ). None (PathObject.capped t c).p3 × None (PathObject.capped t c).p4) (sym e) (h.p3_none, h.p4_none)

  caps_three : T ≡ 3 → (c : PathObject.Chances) → Rare c → None (PathObject.capped T c).p4
  unfolding PathObject.capped PathObject.caps PathObject.percent
  caps_three e c h = subst (λ (t : ℕ). None (PathObject.capped t c).p4) (sym e) h.p4_none

  abbrev counted : PathObject.Chances → ObjectRule ℕ
  counted c = get_random_note_count (if PathObject.two_notes g then double 1 1 else c.p2) c.p3 c.p4 (double 0 1) (double 0 1)

  n_notes : (c : PathObject.Chances) → Rare c → Meets Q Any (PathObject.generate_n_random_notes g c)
  unfolding PathObject.generate_n_random_notes
  n_notes c h = seq (go (eqb T 2) refl (eqb T 3) refl (eqb T 8) refl) (λ n l. hold_notes n l)
    where
      go : (a : Bool) → eqb T 2 ≡ a → (b : Bool) → eqb T 3 ≡ b → (d : Bool) → eqb T 8 ≡ d → Meets Q (λ n. n + low ≤ T - low) (counted (PathObject.capped T c))
      go true e b f d i =
          let z = eqb-true T 2 e in
          let k = caps_two z c h in
          less (at_most_2 _ _ _ _ _ none_zero none_zero k.1 k.0) (λ n l. omega (arith, (start_of T).1 (λ y. omega arith))) (λ r q. q)
      go false e true f d i =
          let z = eqb-true T 3 f in
          less (at_most_3 _ _ _ _ _ none_zero none_zero (caps_three z c h)) (λ n l. omega (arith, (start_of T).1 (λ y. omega arith))) (λ r q. q)
      go false e false f true i =
          let z = eqb-true T 8 i in
          less (at_most_4 _ _ _ _ _ none_zero none_zero) (λ n l. omega (arith, (start_of T).0 z)) (λ r q. q)
      go false e false f false i =
          let x = eqb-false T 2 e in
          let y = eqb-false T 3 f in
          less (at_most_4 _ _ _ _ _ none_zero none_zero) (λ n l. omega (arith, (start_of T).1 (eqb-false T 8 i))) (λ r q. q)

  -- ---- rows of circles

  -- a column beside another one
  beside_some : (c : ℕ) → 0 < frees (2 ^ c) low (T - low)
  beside_some c = omega (arith, frees_one 0 (2 ^ c) c low (T - low) (λ e z f. other_bit c e z), all_free low (T - low), two_columns T some)

  row : (n time c : ℕ) (p : Pattern SliderNote) → On c → Meets Q Any (PathObject.add_row g n time c p)
  unfolding PathObject.add_row
  row zero time c p h = giving tt
  row (suc n) time c p h = seq {P = Any} (bar c time time p h.1 tt) (λ q u. seq (find c (2 ^ c) h (beside_some c)) (λ d i. row n (time + g.length) d q i.1))

  random_notes : (flags n : ℕ) → Meets Q Any (PathObject.generate_random_notes g flags n)
  unfolding PathObject.generate_random_notes
  random_notes flags n = seq (head flags) (λ c h. row n g.start c empty h)

  stair : (n time c : ℕ) (up : Bool) (p : Pattern SliderNote) → c < T → Meets Q Any (PathObject.add_stair g n time c up p)
  unfolding PathObject.add_stair
  stair zero time c up p h = giving tt
  stair (suc n) time c up p h =
      seq {P = Any} (bar c time time p h tt)
      (λ q u. stair n (time + g.length) _ _ q (moved up))
    where
      climb : (b : Bool) → (b ≡ true → c + 1 < T) → (if b then c + 1 else c - 1) < T
      climb true k = k refl
      climb false k = omega arith

      moved : (up : Bool) → (if (if up then ltb c (T - 1) else leb c low) then c + 1 else c - 1) < T
      moved true = climb (ltb c (T - 1)) (λ e. let z = ltb-true c (T - 1) e in omega arith)
      moved false = climb (leb c low) (λ e. let z = leb-true c low e in omega (arith, two_columns T some))

  stair_notes : Meets Q Any (PathObject.generate_stair g)
  unfolding PathObject.generate_stair
  stair_notes = seq valued (λ v u. stair _ _ _ _ empty (own_column g.x T (omega arith)).1)

  legacy_le : PathObject.legacy T ≤ 1
  unfolding PathObject.legacy
  legacy_le = go (leb 4 T && leb T 8)
    where
      go : (b : Bool) → (if b then 1 else 0) ≤ 1
      go true = omega arith
      go false = omega arith

  legacy_none : leb 4 T ≡ false → PathObject.legacy T ≡ 0
  unfolding PathObject.legacy
  legacy_none e = rw e

  other_lt : (interval c : ℕ) → interval + PathObject.legacy T < T → c < T → PathObject.other_column T interval c < T
  unfolding PathObject.other_column
  other_lt interval c h l = go (ltb (c + interval) (T - low)) refl
    where
      go : (b : Bool) → ltb (c + interval) (T - low) ≡ b → (if b then c + interval + low else c + interval + PathObject.legacy T - T) < T
      go true e = let z = ltb-true (c + interval) (T - low) e in omega arith
      go false e = omega arith

  rows : (interval : ℕ) → interval + PathObject.legacy T < T → (n time c : ℕ) (p : Pattern SliderNote) → c < T → Meets Q Any (PathObject.add_rows g interval n time c p)
  unfolding PathObject.add_rows
  rows interval k zero time c p h = giving tt
  rows interval k (suc n) time c p h =
      seq {P = Any} (bar c time time p h tt)
      (λ q u. seq {P = Any} (by (ltb 2 T) _ _ (λ e. bar (PathObject.other_column T interval c) time time q (other_lt interval c k h) tt) (λ e. giving tt))
      (λ r u. seq any_column_law (λ d i. rows interval k n (time + g.length) d r i.1)))

  multiple : Meets Q Any (PathObject.generate_random_multiple_notes g)
  unfolding PathObject.generate_random_multiple_notes
  multiple = seq valued (λ v u. rows _ (fits (between 1 (T - PathObject.legacy T) v) (between_lt u more)) _ _ _ empty (own_column g.x T (omega arith)).1)
    where
      more : 1 < T - PathObject.legacy T
      more = go (leb 4 T) refl
        where
          go : (b : Bool) → leb 4 T ≡ b → 1 < T - PathObject.legacy T
          go true e = let z = leb-true 4 T e in omega (arith, legacy_le)
          go false e = omega (arith, legacy_none e)

      fits : (i : ℕ) → i < T - PathObject.legacy T → i + PathObject.legacy T < T
      fits i h = omega arith

  -- ---- tiles

  tiles : (end n time c : ℕ) (p : Pattern SliderNote) → On c → n ≤ frees p.mask low (T - low) → Meets Q Any (PathObject.add_tiles g end n time c p)
  unfolding PathObject.add_tiles put
  tiles end zero time c p h k = giving tt
  tiles end (suc n) time c p h k =
      seq (find c p.mask h (omega arith))
      (λ d i. seq {P = λ q. q.mask ≡ bit_or p.mask (2 ^ d)} (bar d time end p i.1.1 refl)
      (λ q e. tiles end n (time + g.length) d q i.1 (subst (λ (x : ℕ). n ≤ frees x low (T - low)) (sym e) (omega (arith, frees_put p.mask d low (T - low))))))

  tiled : g.spans < PathObject.tile_limit T → Meets Q Any (PathObject.generate_tiled_hold_notes g)
  unfolding PathObject.generate_tiled_hold_notes PathObject.tile_limit empty
  tiled l = seq (head g.flags) (λ c h. tiles _ _ _ c empty h (omega (arith, all_free low (T - low))))

  -- ---- a hold with circles

  beside : (hold time n c row : ℕ) (p : Pattern SliderNote) → On c → n ≤ frees (bit_or row (2 ^ hold)) low (T - low) → Meets Q (λ r. On r.0) (PathObject.add_beside g hold time n c row p)
  unfolding PathObject.add_beside
  beside hold time zero c row p h k = giving h
  beside hold time (suc n) c row p h k =
      seq (find c (bit_or row (2 ^ hold)) h (omega arith))
      (λ d i. seq {P = Any} (bar d time time p i.1.1 tt)
      (λ q u. beside hold time n d (bit_or row (2 ^ d)) q i.1 (omega (arith, frees_put_in row (2 ^ hold) d low (T - low)))))

  besides : (hold : ℕ) (bare : Bool) (k n time c : ℕ) (p : Pattern SliderNote) → On c → k + 1 ≤ T - low → Meets Q Any (PathObject.add_besides g hold bare k n time c p)
  unfolding PathObject.add_besides
  besides hold bare k zero time c p h l = giving tt
  besides hold bare k (suc n) time c p h l =
      seq (beside hold time _ c 0 p h (few (bare && eqb time g.start) (frees (bit_or 0 (2 ^ hold)) low (T - low)) (frees_put 0 hold low (T - low)) (all_free low (T - low))))
      (λ r i. besides hold bare k n (time + g.length) r.0 r.1 i l)
    where
      few : (b : Bool) {a : ℕ} (f : ℕ) → a ≤ f + 1 → a ≡ T - low → (if b then 0 else k) ≤ f
      few true f h e = omega arith
      few false f h e = omega arith

  one_or_two_law : (p2 : Float) → Meets Q (λ n. n ≤ 2) (PathObject.one_or_two p2)
  unfolding PathObject.one_or_two
  one_or_two_law p2 = at_most_2 _ _ _ _ _ none_zero none_zero none_zero none_zero

  pub beside_count_law : Meets Q (λ n. n ≤ 2) (PathObject.beside_count g)
  unfolding PathObject.beside_count
  beside_count_law =
      by (lt (double 65 10) g.difficulty) _ _ (λ e. one_or_two_law _)
      (λ e. by (lt (double 4 1) g.difficulty) _ _ (λ e. one_or_two_law _)
      (λ e. by (lt (double 25 10) g.difficulty) _ _ (λ e. one_or_two_law _) (λ e. giving (lit≤ tt))))

  hold_and_normal : Meets Q Any (PathObject.generate_hold_and_normal_notes g)
  unfolding PathObject.generate_hold_and_normal_notes
  hold_and_normal =
      seq (head g.flags)
      (λ hold h. seq {P = Any} (bar hold g.start g.end empty h.1 tt)
      (λ p u. seq any_column_law (λ c i. seq beside_count_law (λ n l. besides hold _ (min n (T - 1)) _ _ c p i (wide n l (eqb T 8) refl)))))
    where
      wide : (n : ℕ) → n ≤ 2 → (b : Bool) → eqb T 8 ≡ b → min n (T - 1) + 1 ≤ T - low
      wide n l true e = let z = eqb-true T 8 e in omega (arith, (start_of T).0 z)
      wide n l false e = omega (arith, (start_of T).1 (eqb-false T 8 e))

  -- ---- the branches

  spans : Meets Q Any (PathObject.generate_spans g)
  unfolding PathObject.generate_spans
  spans =
      by (leb g.length 90) _ _ (λ e. hold_notes 1 (one (eqb T 8) refl))
      (λ e. by (leb g.length 120) _ _ (λ e. random_notes _ _)
      (λ e. by (leb g.length 160) _ _ (λ e. stair_notes)
      (λ e. by (leb g.length 200 && lt (double 3 1) g.difficulty) _ _ (λ e. multiple)
      (λ e. by (leb 4000 (g.end - g.start)) _ _ (λ e. n_notes _ long_rare)
      (λ e. by (ltb 400 g.length && ltb g.spans (PathObject.tile_limit T)) _ _ (λ e. tiled (ltb-true g.spans _ (and_r (ltb 400 g.length) _ e))) (λ e. hold_and_normal))))))
    where
      one : (b : Bool) → eqb T 8 ≡ b → 1 + low ≤ T - low
      one true e = let z = eqb-true T 8 e in omega (arith, (start_of T).0 z)
      one false e = omega (arith, (start_of T).1 (eqb-false T 8 e))

  span : Meets Q Any (PathObject.generate_span g)
  unfolding PathObject.generate_span
  span = by (leb g.length 110) _ _ (λ e. random_notes _ _) (λ e. n_notes _ (rows_rare _ _))

  pub several : Meets Q Any (PathObject.generate_core g)
  unfolding PathObject.generate_core
  several = by (eqb T 1) _ _ (λ e. bar 0 g.start g.end empty (omega arith) tt) (λ e. by (ltb 1 g.spans) _ _ (λ e. spans) (λ e. span))

module _ (Q : Refusal → Type 0) (long : Q long_search) (g : PathObjectPatternGenerator) (some : 1 ≤ g.columns) (mask : g.mask < 2 ^ g.columns) (nine : Blocked g.mask g.columns → Q no_column)
    (eight : PathObject.latest < g.end → Q late_end) where
  one_column : eqb g.columns 1 ≡ true → Meets Q (λ p. Unit {0}) (PathObject.generate_core g)
  unfolding PathObject.generate_core PathObject.add_slider_note
  one_column e = rw e (added g.columns _ 0 empty some tt)

  either : (b : Bool) → eqb g.columns 1 ≡ b → Meets Q (λ p. Unit {0}) (PathObject.generate_core g)
  either true e = one_column e
  either false e = let z = eqb-false g.columns 1 e in several Q long g (omega arith) mask nine

  pub slider_ends : Meets Q (λ m. Unit {0}) (PathObject.generate g)
  unfolding PathObject.generate
  slider_ends = by (ltb PathObject.latest g.end) _ _ (λ e. refusing (eight (ltb-true PathObject.latest g.end e))) (λ e. seq (either (eqb g.columns 1) refl) (λ p u. giving tt))

-- ---- a spinner or a hold

module _ (Q : Refusal → Type 0) (long : Q long_search) (v : PrevValues) (columns : ℕ) (o : Object) (duration : Float) (some : 1 ≤ columns) (nine : Blocked v.mask columns → Q no_column) where
  above_one : random_start columns < columns
  above_one = go (eqb columns 8) refl
    where
      go : (b : Bool) → eqb columns 8 ≡ b → random_start columns < columns
      go true e = let z = eqb-true columns 8 e in omega (arith, (start_of columns).0 z)
      go false e = omega (arith, (start_of columns).1 (eqb-false columns 8 e))

  end_column_law : Meets Q (λ c. c < columns) (EndTimeObject.end_column v columns)
  unfolding EndTimeObject.end_column
  end_column_law =
      seq (any_in Q long (random_start columns) columns 0 above_one)
      (λ c h. go (eqb (ones v.mask) columns) refl c h)
    where
      go : (b : Bool) → eqb (ones v.mask) columns ≡ b → (c : ℕ) → In (random_start columns) columns c
          → Meets Q (λ c. c < columns) (find_available_column Draw columns c (random_start columns) columns (if b then 0 else v.mask))
      go true e c h = less (search_in Q long (random_start columns) columns 0 above_one columns c h (omega (arith, all_free (random_start columns) (columns - random_start columns), above_one))) (λ d i. i.1.1) (λ r q. q)
      go false e c h = less (search Q long (random_start columns) columns v.mask above_one columns c h (λ t f. nine (f, eqb-false (ones v.mask) columns e))) (λ d i. i.1.1) (λ r q. q)

  note_column_law : (lasts : Float) → Meets Q (λ c. c < columns) (EndTimeObject.note_column v columns o lasts)
  unfolding EndTimeObject.note_column
  note_column_law lasts = by (eqb columns 8 && has_flag o.sound finish && lt lasts (double 1000 1)) _ _ (λ e. giving some) (λ e. end_column_law)

  pub end_ends : Meets Q (λ m. Unit {0}) (EndTimeObject.generate v columns o duration)
  unfolding EndTimeObject.generate
  end_ends = seq (note_column_law _) (λ c l. seq {P = λ p. Unit {0}} (added columns _ c empty l tt) (λ p u. giving tt))
