-- An object makes at most 602 notes. Assumes nothing.
use Rattle.std.specs.Prelude.{if◌then◌else◌}
use mathlib.Core.Path.{◌≡◌, refl, sym, ap, ◌∙◌, subst}
use Prim.Native.Nat.{ℕ, zero, suc, ◌+◌, ◌-◌, ◌*◌, ◌^◌, ◌≤◌, ◌<◌, min}
use native.Mathlib.Nat.{le_refl, le_trans, mul-le-mul_right, mul-le-mul_left}
use native.Mathlib.Omega.{arith}
use mathlib.Core.Bool.{Bool, true, false, ◌&&◌}
use mathlib.Core.List.{List, [], ◌∷◌, ◌++◌, map}
use lib.Dec.{eqb, leb, ltb, lit≤}
use lib.Ieee.{Float, lt}
use lib.ListN.{length, take, length-append}
use borrow.Author.Tests.{leb-false, ltb-false}
use Rattle.model.specs.Limits.{most_repeats, most_spans, most_rows, most_notes, most_long_spans}
use Rattle.rules.specs.Rule.{Rule, give, refuse, draw, draw_until, ended}
use Rattle.random.specs.Generator.{seeded}
use Rattle.mania.specs.declared.Facts.{Facts}
use Rattle.mania.specs.declared.PrevValues.{PrevValues}
use Rattle.model.specs.declared.Object.{Object}
use Rattle.model.specs.declared.Kind.{Kind}
use Rattle.model.specs.declared.Kind.TheVariants.{Circle, Slider, Spinner, Hold}
use Rattle.mania.specs.declared.Note.{Note}
use Rattle.mania.specs.declared.SliderNote.{SliderNote}
use Rattle.mania.specs.declared.PathObjectPatternGenerator.{PathObjectPatternGenerator}
use Rattle.mania.specs.Steps.{double}
use Rattle.mania.specs.Made.{Made, circle}
use Rattle.mania.specs.Pattern.{Pattern, empty, put}
use Rattle.mania.specs.HitObject
use Rattle.mania.specs.EndTimeObject
use Rattle.mania.specs.PathObject
use Rattle.mania.specs.Object.{by_kind, object}
use Rattle.mania.specs.Range.{FewRepeats, InRange}
use Rattle.mania.specs.Chart.{in_walk_order}
use Rattle.mania.specs.Convert
use Rattle.model.specs.Song.{Song}
use Rattle.mania.specs.Convert.{Walk, SongFacts, song_facts, at, seed, columns_of, convert}
use Rattle.mania.specs.Refusals.{TooLong}
use Rattle.mania.specs.Job.{under}
use Rattle.mania.specs.Demand.{Each}
use Rattle.random.specs.Laws.Gives.{Gives}
use Rattle.mania.proofs.Makes.{Makes, giving, refusing, seq, less, by, added, labelled, ran}
use Rattle.mania.proofs.Bars.{kept, ending_kept}
use Rattle.mania.proofs.Demand.{spans_fit, some_spans, some_columns}
use Rattle.mania.proofs.Pigeons.{pigeons}
use Rattle.mania.proofs.CircleLanes.{circle_differ}
use Rattle.mania.proofs.SliderLanes as Lanes
use Rattle.chart.specs.Layout.{chart_size}

-- nothing is said of what a rule gives
nothing : {W R A : Type 0} (m : Rule W R A) → Gives (λ a. Unit {0}) m
nothing (give a) = tt
nothing (refuse r) = tt
nothing (draw r k) = λ v l. nothing (k v)
nothing (draw_until w limit r test k) = λ v n l e. nothing (k v n)

any : {W R A : Type 0} {m : Rule W R A} → Makes (λ a. Unit {0}) m
any {m = m} = record { made = nothing m }

abbrev Few : ℕ → Pattern SliderNote → Type 0
Few n p = length p.notes ≤ n

module _ (g : PathObjectPatternGenerator) where
  one_more : (c s e : ℕ) (p : Pattern SliderNote) → Makes (λ q. length q.notes ≡ length p.notes + 1) (PathObject.add_slider_note g c s e p)
  unfolding PathObject.add_slider_note put
  one_more c s e p = added g.columns _ c p (λ on. length-append p.notes _)

  row_few : (n time c : ℕ) (p : Pattern SliderNote) → Makes (Few (length p.notes + n)) (PathObject.add_row g n time c p)
  unfolding PathObject.add_row
  row_few zero time c p = giving (omega arith)
  row_few (suc n) time c p =
      seq (one_more c time time p) (λ q i. seq any (λ d u. less (row_few n (time + g.length) d q) (λ r h. step (length p.notes) _ _ i h)))
    where
      step : (a b c : ℕ) → b ≡ a + 1 → c ≤ b + n → c ≤ a + suc n
      step a b c i h = omega arith

  stair_few : (n time c : ℕ) (up : Bool) (p : Pattern SliderNote) → Makes (Few (length p.notes + n)) (PathObject.add_stair g n time c up p)
  unfolding PathObject.add_stair
  stair_few zero time c up p = giving (omega arith)
  stair_few (suc n) time c up p =
      seq (one_more c time time p) (λ q i. less (stair_few n (time + g.length) _ _ q) (λ r h. step (length p.notes) _ _ i h))
    where
      step : (a b c : ℕ) → b ≡ a + 1 → c ≤ b + n → c ≤ a + suc n
      step a b c i h = omega arith

  rows_few : (interval n time c : ℕ) (p : Pattern SliderNote) → Makes (Few (length p.notes + 2 * n)) (PathObject.add_rows g interval n time c p)
  unfolding PathObject.add_rows
  rows_few interval zero time c p = giving (omega arith)
  rows_few interval (suc n) time c p =
      seq (one_more c time time p)
      (λ q i. seq {P = Few (length q.notes + 1)}
      (by (ltb 2 g.columns) _ _ (λ e. less (one_more _ time time q) (λ r h. same _ _ h)) (λ e. giving (omega arith)))
      (λ r j. seq any (λ d u. less (rows_few interval n (time + g.length) d r) (λ t h. step (length p.notes) _ _ _ i j h))))
    where
      same : (a b : ℕ) → a ≡ b → a ≤ b
      same a b e = omega arith

      step : (a b c d : ℕ) → b ≡ a + 1 → c ≤ b + 1 → d ≤ c + 2 * n → d ≤ a + 2 * suc n
      step a b c d i j h = omega arith

  beside_few : (hold time n c row : ℕ) (p : Pattern SliderNote) → Makes (λ r. Few (length p.notes + n) r.1) (PathObject.add_beside g hold time n c row p)
  unfolding PathObject.add_beside
  beside_few hold time zero c row p = giving (omega arith)
  beside_few hold time (suc n) c row p =
      seq any (λ d u. seq (one_more d time time p) (λ q i. less (beside_few hold time n d _ q) (λ r h. step (length p.notes) _ _ i h)))
    where
      step : (a b c : ℕ) → b ≡ a + 1 → c ≤ b + n → c ≤ a + suc n
      step a b c i h = omega arith

  besides_few : (hold : ℕ) (bare : Bool) (k n time c : ℕ) (p : Pattern SliderNote) → Makes (Few (length p.notes + n * k)) (PathObject.add_besides g hold bare k n time c p)
  unfolding PathObject.add_besides
  besides_few hold bare k zero time c p = giving (omega arith)
  besides_few hold bare k (suc n) time c p =
      seq (beside_few hold time (if bare && eqb time g.start then 0 else k) c 0 p)
      (λ row i. less (besides_few hold bare k n (time + g.length) row.0 row.1) (λ q h. step (length p.notes) _ _ _ i (most (bare && eqb time g.start)) h))
    where
      most : (b : Bool) → (if b then 0 else k) ≤ k
      most true = omega arith
      most false = omega arith

      step : (a b c j : ℕ) → b ≤ a + j → j ≤ k → c ≤ b + n * k → c ≤ a + suc n * k
      step a b c j i l h = omega arith

  -- ---- the branches

  module _ (deck : g.columns ≤ 9) (spans : g.spans ≤ most_spans) (late : g.end ≤ 2 ^ 53) (fits : 0 < g.length → g.start + g.length * g.spans ≤ g.end) where
    abbrev N : ℕ
    N = most_notes

    abbrev B : SliderNote → Type 0
    B b = b.column < g.columns

    good_few : (p : Pattern SliderNote) → Lanes.Good B p → Few N p
    good_few p h = le_trans (pigeons (λ (b : SliderNote). b.column) g.columns p.notes h.own h.two.1) (le_trans deck (lit≤ tt))

    hold_few : (n : ℕ) → Makes (Few N) (PathObject.generate_random_hold_notes g n)
    hold_few n = less (Lanes.hold_notes_good B g (λ c t e l i j. l) (λ c l. l) (λ c l. l) late n) good_few

    tiled_few : g.start + g.length * g.spans ≤ g.end → Makes (Few N) (PathObject.generate_tiled_hold_notes g)
    tiled_few h = less (Lanes.tiled_good B g (λ c t e l i j. l) (λ c l. l) (λ c l. l) late h) good_few

    chance_few : (c : PathObject.Chances) → Makes (Few N) (PathObject.generate_n_random_notes g c)
    unfolding PathObject.generate_n_random_notes
    chance_few c = seq any (λ n u. hold_few n)

    row_notes_few : (kind n : ℕ) → n ≤ most_rows → Makes (Few N) (PathObject.generate_random_notes g kind n)
    unfolding PathObject.generate_random_notes empty
    row_notes_few kind n h = seq any (λ c u. less (row_few n g.start c empty) (λ p k. le_trans k (small n h)))
      where
        small : (n : ℕ) → n ≤ most_rows → 0 + n ≤ most_notes
        small n h = omega arith

    rows_of : g.spans + 1 ≤ most_rows
    rows_of = omega arith

    stair_notes_few : Makes (Few N) (PathObject.generate_stair g)
    unfolding PathObject.generate_stair empty
    stair_notes_few = seq any (λ v u. less (stair_few _ _ _ _ empty) (λ p k. le_trans k (small (g.spans + 1) rows_of)))
      where
        small : (n : ℕ) → n ≤ most_rows → 0 + n ≤ most_notes
        small n h = omega arith

    multiple_few : Makes (Few N) (PathObject.generate_random_multiple_notes g)
    unfolding PathObject.generate_random_multiple_notes empty
    multiple_few = seq any (λ v u. less (rows_few _ _ _ _ empty) (λ p k. le_trans k (small (g.spans + 1) rows_of)))
      where
        small : (n : ℕ) → n ≤ most_rows → 0 + 2 * n ≤ most_notes
        small n h = omega arith

    -- few spans of more than 160 ms lie within 4 s
    few_spans : 160 < g.length → g.end - g.start < 4000 → g.spans ≤ most_long_spans
    few_spans l h =
        let some : 161 * g.spans ≤ g.length * g.spans = mul-le-mul_right g.spans l in
        let in_time : g.start + g.length * g.spans ≤ g.end = fits (positive l) in
        go (g.length * g.spans) g.spans some in_time
      where
        positive : 160 < g.length → 0 < g.length
        positive l = omega arith

        go : (m n : ℕ) → 161 * n ≤ m → g.start + m ≤ g.end → n ≤ most_long_spans
        go m n p q = omega arith

    hold_and_normal_few : 160 < g.length → g.end - g.start < 4000 → Makes (Few N) (PathObject.generate_hold_and_normal_notes g)
    unfolding PathObject.generate_hold_and_normal_notes empty
    hold_and_normal_few l h =
        seq any (λ hold u. seq (one_more hold _ _ empty) (λ p i. seq any (λ c u. seq any
        (λ n u. less (besides_few hold _ (min n (g.columns - 1)) (g.spans + 1) g.start c p)
        (λ q k. bound (length p.notes) (length q.notes) (g.spans + 1) (min n (g.columns - 1)) i k (rows g.spans (few_spans l h)) (wide n g.columns deck))))))
      where
        rows : (n : ℕ) → n ≤ most_long_spans → n + 1 ≤ 25
        rows n h = omega arith

        wide : (n t : ℕ) → t ≤ 9 → min n (t - 1) ≤ 8
        wide n t h = omega arith

        bound : (a b n k : ℕ) → a ≡ 0 + 1 → b ≤ a + n * k → n ≤ 25 → k ≤ 8 → b ≤ most_notes
        bound a b n k i h p q = omega (arith, mul-le-mul_right k p, mul-le-mul_left 25 q)

    spans_few : Makes (Few N) (PathObject.generate_spans g)
    unfolding PathObject.generate_spans
    spans_few =
        by (leb g.length 90) _ _ (λ e. hold_few _)
        (λ e. by (leb g.length 120) _ _ (λ e. row_notes_few _ _ rows_of)
        (λ e. by (leb g.length 160) _ _ (λ e. stair_notes_few)
        (λ long. by (leb g.length 200 && lt (double 3 1) g.difficulty) _ _ (λ e. multiple_few)
        (λ e. by (leb 4000 (g.end - g.start)) _ _ (λ e. chance_few _)
        (λ brief. by (ltb 400 g.length && ltb g.spans (PathObject.tile_limit g.columns)) _ _
        (λ e. tiled_few (fits (positive (leb-false g.length 160 long))))
        (λ e. hold_and_normal_few (leb-false g.length 160 long) (leb-false 4000 (g.end - g.start) brief)))))))
      where
        positive : 160 < g.length → 0 < g.length
        positive l = omega arith

    span_few : Makes (Few N) (PathObject.generate_span g)
    unfolding PathObject.generate_span
    span_few = by (leb g.length 110) _ _ (λ e. row_notes_few _ _ (two (leb 80 g.length))) (λ e. chance_few _)
      where
        two : (b : Bool) → (if b then 2 else 1) ≤ most_rows
        two true = lit≤ tt
        two false = lit≤ tt

    core_few : Makes (Few N) (PathObject.generate_core g)
    unfolding PathObject.generate_core empty
    core_few =
        by (eqb g.columns 1) _ _ (λ e. less (one_more _ _ _ empty) (λ p k. small _ k))
        (λ e. by (ltb 1 g.spans) _ _ (λ e. spans_few) (λ e. span_few))
      where
        small : (a : ℕ) → a ≡ 0 + 1 → a ≤ most_notes
        small a e = omega arith

-- ---- the split keeps the number

length_map : {A B : Type 0} (f : A → B) (xs : List A) → length (map f xs) ≡ length xs
length_map f [] = refl
length_map f (x ∷ xs) = ap suc (length_map f xs)

split_lengths : (end : ℕ) (bs : List SliderNote) → length (PathObject.others end bs) + length (kept end bs) ≡ length bs
unfolding PathObject.others kept
split_lengths end [] = refl
split_lengths end (b ∷ bs) = go (eqb b.end end) (split_lengths end bs)
  where
    go : (t : Bool) → length (PathObject.others end bs) + length (kept end bs) ≡ length bs
        → length (if t then PathObject.others end bs else b ∷ PathObject.others end bs) + length (if t then b ∷ kept end bs else kept end bs) ≡ suc (length bs)
    go true h = omega arith
    go false h = omega arith

split_few : (g : PathObjectPatternGenerator) (p : Pattern SliderNote) → length (PathObject.split g p).notes ≡ length p.notes
unfolding PathObject.split empty
split_few g p = go (eqb (length p.notes) 1)
  where
    alone : Made
    alone = record { notes = map PathObject.note_of p.notes; mask = p.mask; last = p.last; stair = g.stair }

    parted : Made
    parted =
        let q = PathObject.ending g.end p.notes empty in
        record { notes = map PathObject.note_of (PathObject.others g.end p.notes ++ q.notes); mask = q.mask; last = q.last; stair = g.stair }

    go : (t : Bool) → length (if t then alone else parted).notes ≡ length p.notes
    go true = length_map PathObject.note_of p.notes
    go false =
        length_map PathObject.note_of (PathObject.others g.end p.notes ++ (PathObject.ending g.end p.notes empty).notes)
        ∙ length-append (PathObject.others g.end p.notes) (PathObject.ending g.end p.notes empty).notes
        ∙ ap (λ (xs : List SliderNote). length (PathObject.others g.end p.notes) + length xs) (ending_kept g.end p.notes empty)
        ∙ split_lengths g.end p.notes

slider_few : (g : PathObjectPatternGenerator) → g.columns ≤ 9 → g.spans ≤ most_spans → (0 < g.length → g.start + g.length * g.spans ≤ g.end)
    → Makes (λ made. length made.notes ≤ most_notes) (PathObject.generate g)
unfolding PathObject.generate
slider_few g deck spans fits =
    by (ltb PathObject.latest g.end) _ _ (λ e. refusing)
    (λ e. seq (core_few g deck spans (le_trans (ltb-false PathObject.latest g.end e) (lit≤ tt)) fits) (λ p h. giving (subst (λ (n : ℕ). n ≤ most_notes) (sym (split_few g p)) h)))

-- ---- of each object, and of a walk

end_few : (v : PrevValues) (columns : ℕ) (o : Object) (duration : Float) → Makes (λ made. length made.notes ≤ most_notes) (EndTimeObject.generate v columns o duration)
unfolding EndTimeObject.generate put empty
end_few v columns o duration =
    seq any (λ c u. seq {P = λ p. length p.notes ≤ most_notes} (added columns _ c empty (λ on. lit≤ tt)) (λ p h. giving h))

module _ (columns : ℕ) (some : 1 ≤ columns) (deck : columns ≤ 9) where
  circle_few : (f : Facts) (v : PrevValues) (o : Object) → Makes (λ made. length made.notes ≤ most_notes) (HitObject.generate (HitObject.new f v columns o))
  unfolding HitObject.new circle
  circle_few f v o =
      less (circle_differ (HitObject.new f v columns o) (λ n. n.column < columns) (λ c l. l) some)
      (λ made h. le_trans (pigeons (λ (n : Note). n.column) columns made.notes h.0 h.1) (le_trans deck (lit≤ tt)))

  pub kind_few : (f : Facts) (v : PrevValues) (o : Object) (k : Kind) → FewRepeats k → Makes (λ made. length made.notes ≤ most_notes) (by_kind f v columns o k)
  unfolding by_kind PathObject.new PathObject.span_length
  kind_few f v o Circle h = circle_few f v o
  kind_few f v o (Slider repeats distance sound) h =
      slider_few (PathObject.new f v columns o repeats distance sound) deck (more repeats h)
      (λ l. spans_fit (PathObject.start_time o) (PathObject.end_time f o (repeats + 1) distance) (repeats + 1) (some_spans repeats) l)
    where
      more : (n : ℕ) → n ≤ most_repeats → n + 1 ≤ most_spans
      more n h = omega arith
  kind_few f v o (Spinner duration) h = end_few v columns o duration
  kind_few f v o (Hold duration) h = end_few v columns o duration

  object_few : (room : ℕ) (f : Facts) (w : Walk) (o : Object) → FewRepeats o.kind → Makes (λ made. length made.notes ≤ most_notes) (Convert.object_in columns room f w o)
  unfolding Convert.object_in object
  object_few room f w o h =
      seq (kind_few f w.prev o o.kind h)
      (λ made h. by (ltb room (chart_size (w.notes + length made.notes))) _ _ (λ e. refusing) (λ e. giving h))

  walk_few : (s : SongFacts) (room i : ℕ) (w : Walk) (os : List Object) → Each InRange os
      → Makes (λ nss. length (in_walk_order nss) ≤ most_notes * length os) (Convert.walk s columns room i w os)
  unfolding Convert.walk in_walk_order
  walk_few s room i w [] h = giving (omega arith)
  walk_few s room i w (o ∷ os) h =
      let d = Convert.meets o.kind o.start w.density in
      let f = Convert.facts_at s d o in
      seq (labelled (λ p. i) (at i) (object_few room f w o h.0.repeats))
      (λ made k. seq (walk_few s room (suc i) (Convert.after_object f o d made w) os h.1)
      (λ rest l. giving (more (length made.notes) (length (in_walk_order rest)) (length os) k l (length-append made.notes (in_walk_order rest)))))
    where
      more : (a b n : ℕ) {c : ℕ} → a ≤ most_notes → b ≤ most_notes * n → c ≡ a + b → c ≤ most_notes * suc n
      more a b n h k e = omega arith

convert_few : (s : Song) (room : ℕ) → columns_of s ≤ 9 → Each InRange s.objects
    → Makes (λ nss. length (in_walk_order nss) ≤ most_notes * length s.objects) (convert s room)
unfolding convert
convert_few s room deck h = by (ltb room 8) _ _ (λ e. refusing) (λ e. walk_few (columns_of s) (some_columns s) deck (song_facts s) room 0 _ s.objects h)

-- the number of an accepted job's notes
pub ended_few : (s : Song) (buffer : List ℕ) → columns_of s ≤ 9 → Each InRange s.objects → (a n : ℕ) (nss : List (List Note)) → under s buffer a ≡ ended nss n
    → length (in_walk_order nss) ≤ most_notes * length s.objects
unfolding under
ended_few s buffer deck h a n nss e = ran _ (convert s (length buffer)) (convert_few s (length buffer) deck h).made (seeded (seed s.settings)) a nss n e

-- the number of notes of an accepted song's objects so far, where they do not fit
pub long_few : (s : Song) (room a i n : ℕ) → columns_of s ≤ 9 → Each InRange s.objects → (t : TooLong s room a i n)
    → length (in_walk_order t.nss) ≤ most_notes * length s.objects
long_few s room a i n deck h t =
    let wide = chart_size (length (in_walk_order t.nss)) in
    let os = take (suc i) s.objects in
    let few = walk_few (columns_of s) (some_columns s) deck (song_facts s) wide 0 Convert.beginning os (each_take (suc i) s.objects h) in
    le_trans (ran _ _ few.made (seeded (seed s.settings)) a t.nss n (t.made wide (le_refl wide))) (mul-le-mul_left most_notes (take_few (suc i) s.objects))
  where
    each_take : (k : ℕ) (os : List Object) → Each InRange os → Each InRange (take k os)
    each_take zero os h = tt
    each_take (suc k) [] h = tt
    each_take (suc k) (o ∷ os) h = (h.0, each_take k os h.1)

    take_few : (k : ℕ) (os : List Object) → length (take k os) ≤ length os
    take_few zero os = omega arith
    take_few (suc k) [] = omega arith
    take_few (suc k) (o ∷ os) = let z = take_few k os in omega arith

-- ---- and they have room

module _ (columns : ℕ) where
  object_room : (room : ℕ) (f : Facts) (w : Walk) (o : Object) → Makes (λ made. chart_size (w.notes + length made.notes) ≤ room) (Convert.object_in columns room f w o)
  unfolding Convert.object_in
  object_room room f w o =
      seq any
      (λ made u. by (ltb room (chart_size (w.notes + length made.notes))) _ _ (λ e. refusing) (λ e. giving (ltb-false room (chart_size (w.notes + length made.notes)) e)))

  walk_room : (s : SongFacts) (room i : ℕ) (w : Walk) (os : List Object) → chart_size w.notes ≤ room
      → Makes (λ nss. chart_size (w.notes + length (in_walk_order nss)) ≤ room) (Convert.walk s columns room i w os)
  unfolding Convert.walk Convert.after_object Convert.walk_after in_walk_order
  walk_room s room i w [] h = giving (empty_room w.notes h)
    where
      empty_room : (n : ℕ) → chart_size n ≤ room → chart_size (n + 0) ≤ room
      empty_room n h = omega arith
  walk_room s room i w (o ∷ os) h =
      let d = Convert.meets o.kind o.start w.density in
      let f = Convert.facts_at s d o in
      seq (labelled (λ p. i) (at i) (object_room room f w o))
      (λ made k. seq (walk_room s room (suc i) (Convert.after_object f o d made w) os k)
      (λ rest l. giving (more w.notes (length made.notes) (length (in_walk_order rest)) l (length-append made.notes (in_walk_order rest)))))
    where
      more : (a b c : ℕ) {n : ℕ} → chart_size (a + b + c) ≤ room → n ≡ b + c → chart_size (a + n) ≤ room
      more a b c h e = omega arith

convert_room : (s : Song) (room : ℕ) → Makes (λ nss. chart_size (length (in_walk_order nss)) ≤ room) (convert s room)
unfolding convert Convert.beginning
convert_room s room =
    by (ltb room 8) _ _ (λ e. refusing)
    (λ e. less (walk_room (columns_of s) (song_facts s) room 0 Convert.beginning s.objects (start (ltb-false room 8 e))) (λ nss h. same (length (in_walk_order nss)) h))
  where
    start : 8 ≤ room → chart_size 0 ≤ room
    start h = omega arith

    same : (k : ℕ) → chart_size (0 + k) ≤ room → chart_size k ≤ room
    same k h = omega arith

-- the chart of an accepted job fits the buffer
pub ended_room : (s : Song) (buffer : List ℕ) (a n : ℕ) (nss : List (List Note)) → under s buffer a ≡ ended nss n → chart_size (length (in_walk_order nss)) ≤ length buffer
unfolding under
ended_room s buffer a n nss e = ran _ (convert s (length buffer)) (convert_room s (length buffer)).made (seeded (seed s.settings)) a nss n e

-- ---- a list of notes for each object

walk_lists : (s : SongFacts) (columns room i : ℕ) (w : Walk) (os : List Object) → Makes (λ nss. length nss ≡ length os) (Convert.walk s columns room i w os)
unfolding Convert.walk
walk_lists s columns room i w [] = giving refl
walk_lists s columns room i w (o ∷ os) =
    let d = Convert.meets o.kind o.start w.density in
    let f = Convert.facts_at s d o in
    seq any (λ made k. seq (walk_lists s columns room (suc i) (Convert.after_object f o d made w) os) (λ rest l. giving (ap suc l)))

convert_lists : (s : Song) (room : ℕ) → Makes (λ nss. length nss ≡ length s.objects) (convert s room)
unfolding convert
convert_lists s room = by (ltb room 8) _ _ (λ e. refusing) (λ e. walk_lists (song_facts s) (columns_of s) room 0 Convert.beginning s.objects)

pub ended_lists : (s : Song) (buffer : List ℕ) (a n : ℕ) (nss : List (List Note)) → under s buffer a ≡ ended nss n → length nss ≡ length s.objects
unfolding under
ended_lists s buffer a n nss e = ran _ (convert s (length buffer)) (convert_lists s (length buffer)).made (seeded (seed s.settings)) a nss n e
