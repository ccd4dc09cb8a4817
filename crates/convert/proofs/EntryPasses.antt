-- The values of an accepted song's walk pass the single-object entry's checks: previous time and density are finite, since no time is far, and the
-- previous position is one of an object or the middle. Assumes nothing.
use Rattle.std.specs.Prelude.{if◌then◌else◌, Option, Some, None}
use mathlib.Core.Path.{◌≡◌, refl, subst}
use Prim.Native.Nat.{ℕ, zero, suc, ◌+◌, ◌-◌, ◌*◌, ◌^◌, ◌≤◌, ◌<◌}
use native.Mathlib.Nat.{le_trans, mul-le-mul_right, div-le_self}
use native.Mathlib.Omega.{arith}
use mathlib.Core.Bool.{Bool, true, false}
use mathlib.Core.List.{List, [], ◌∷◌, ◌++◌}
use lib.Dec.{T, ltb, lit≤}
use lib.Ieee.{Float, nan, inf, fin, binary64, round, of_int, neg, add, sub, div, le, lt, eq}
use lib.Ieee.Back.{round_whole}
use lib.Ieee.Bits.{is_true}
use lib.Ieee.Positive.{den}
use lib.Ieee.Scale.{finite}
use lib.ListN.{length, drop, get_or, length-drop}
use borrow.Author.Tests.{ltb-true, ltb-false, lt-ltb, le-leb}
use Rattle.rules.specs.Rule.{ended, run}
use Rattle.rules.specs.Laws.Each.{each_at}
use Rattle.random.specs.Generator.{values}
use Rattle.random.specs.declared.Random.{Random}
use Rattle.floats.specs.Range.{in_range}
use Rattle.floats.specs.Laws.Values.{sized}
use Rattle.floats.specs.Laws.Spans.{up_to}
use Rattle.model.specs.Limits.{most_repeats, most_rows, latest_start, latest_end, beat_range, velocity_range, span_range, coordinate_range, multiplier_range}
use Rattle.model.specs.ControlPoint.{beat_from, beat_at, velocity_from, velocity_at}
use Rattle.model.specs.Song.{Song}
use Rattle.model.specs.declared.Object.{Object}
use Rattle.model.specs.declared.Kind.{Kind}
use Rattle.model.specs.declared.Kind.TheVariants.{Circle, Slider, Spinner, Hold}
use Rattle.model.specs.declared.TimingPoint.{TimingPoint}
use Rattle.model.specs.declared.DifficultyPoint.{DifficultyPoint}
use Rattle.record.specs.Record.{accepted, parse}
use Rattle.record.specs.Fit.{FitSong, FitObject, FitKind, FitDistance, FitNode, FitTiming, FitDifficulty}
use Rattle.record.proofs.Laws.Ranges.{fit_song}
use Rattle.mania.specs.declared.Facts.{Facts}
use Rattle.mania.specs.declared.PrevValues.{PrevValues}
use Rattle.mania.specs.Steps.{double, double#}
use Rattle.mania.specs.Made.{Made}
use Rattle.mania.specs.LimitedQueue.{Density, last_seven, density_of, compute_density, unknown_density}
use Rattle.mania.specs.PathObject as PathObject
use Rattle.mania.specs.Object.{by_kind, object}
use Rattle.mania.specs.Convert.{Walk, SongFacts, columns_of, difficulty_of, song_facts, beginning, meets, facts_at, node_time, nodes, span_in, leaves, time_after, position_after, walk_after, after_object}
use Rattle.mania.specs.Refusals.{Late}
use Rattle.mania.specs.Reached.{walk_to, reaches}
use Rattle.mania.specs.Demand.{Each}
use Rattle.mania.specs.Single.{inside, pattern_fits, settings_fit, points_fit, position_fits, distance_fits, node_fits, kind_fits, object_fits, entry_refusal}
use Rattle.mania.proofs.Makes as Makes
use Rattle.mania.proofs.Makes.{Makes, any, each_snoc, ran}
use Rattle.mania.proofs.Reach.{reasons}
use Rattle.mania.proofs.Demand.{few_columns}
use Rattle.settings.specs.Difficulty.{Small, small_of, Large, large_whole, small_int, mul_small, div_small, add_small, difficulty_allowed}
use Rattle.convert.specs.EntryPasses.{EntryPasses}

-- ---- sizes

-- no time of a walk is beyond 2 ^ 36, and so no density beyond 2 ^ 37
abbrev far : ℕ
far = 68719476736

abbrev apart : ℕ
apart = 137438953472

more_small : {p q : ℕ} {x : Float} → p ≤ q → Small p x → Small q x
more_small {x = x} h k = record { real = k.real; most = le_trans k.most (mul-le-mul_right (den x) h) }

neg_small : (p : ℕ) (x : Float) → Small p x → Small p (neg x)
unfolding neg
neg_small p nan h = h
neg_small p (inf s) h = absurd h.real
neg_small p (fin s m e) h = record { real = tt; most = h.most }

sub_small : (x y : Float) (p q : ℕ) → Small p x → Small q y → p + q ≤ 2 ^ 53 → Small (p + q) (sub binary64 x y)
unfolding sub
sub_small x y p q h k small = add_small binary64 x (neg y) p q h (neg_small q y k) small

large_int : (n : ℕ) → 1 ≤ n → n ≤ 2 ^ 53 → Large (double# n)
unfolding of_int
large_int zero h l = absurd (omega arith)
large_int (suc n) h l = large_whole false n l

-- a start or a duration
small_span : (x : Float) → T (inside span_range x) → Small latest_start x
small_span x h = small_of latest_start x (up_to latest_start (double 0 1) (double latest_start 1) x (sized (double 0 1) 0 1 (round_whole binary64 false 0 (lit≤ tt))) (round_whole binary64 false latest_start (lit≤ tt)) h)

-- ---- the density

each_drop : {A : Type 0} (P : A → Type 0) (n : ℕ) (xs : List A) → Each P xs → Each P (drop n xs)
each_drop P zero xs h = h
each_drop P (suc n) [] h = tt
each_drop P (suc n) (x ∷ xs) h = each_drop P n xs h.1

record Dense (d : Density) : Type 0 where
  times : Each (Small far) d.times
  value : Small apart d.value

dense_value : (ts : List Float) (old : Float) → Each (Small far) ts → length ts ≤ 7 → Small apart old → Small apart (density_of ts old)
unfolding density_of
dense_value ts old all few h = go (ltb (length ts) 2) refl
  where
    go : (b : Bool) → ltb (length ts) 2 ≡ b → Small apart (if b then old else div binary64 (sub binary64 (get_or ts (length ts - 1) old) (get_or ts 0 old)) (double# (length ts)))
    go true e = h
    go false e =
        let l = ltb-false (length ts) 2 e in
        div_small binary64 _ (double# (length ts)) apart
        (sub_small (get_or ts (length ts - 1) old) (get_or ts 0 old) far far (each_at (Small far) ts (length ts - 1) old all (omega arith)) (each_at (Small far) ts 0 old all (omega arith)) (lit≤ tt))
        (large_int (length ts) (omega arith) (omega arith)) (lit≤ tt)

dense_next : (t : Float) (d : Density) → Small far t → Dense d → Dense (compute_density t d)
unfolding compute_density last_seven
dense_next t d h k =
    let before : List Float = d.times ++ t ∷ [] in
    let all = each_drop (Small far) (length before - 7) before (each_snoc (Small far) d.times t k.times h) in
    record { times = all; value = dense_value (drop (length before - 7) before) d.value all (few (length before) (length-drop (length before - 7) before)) k.value }
  where
    few : (n : ℕ) {m : ℕ} → m ≡ n - (n - 7) → m ≤ 7
    few n e = omega arith

-- ---- times

near : {x : Float} → Small latest_start x → Small far x
near h = more_small (lit≤ tt) h

ends_small : (x y : Float) → Small latest_start x → Small latest_start y → Small far (add binary64 x y)
ends_small x y h k = more_small (lit≤ tt) (add_small binary64 x y latest_start latest_start h k (lit≤ tt))

node_small : (o : Object) (span n : ℕ) → Small latest_start o.start → span ≤ latest_end → n ≤ most_rows → Small far (node_time o span n)
unfolding node_time
node_small o span n h l m =
    let by = mul_small binary64 (double# span) (double# n) latest_end most_rows (more_small l (small_int span (le_trans l (lit≤ tt)))) (more_small m (small_int n (le_trans m (lit≤ tt)))) (lit≤ tt) in
    more_small (lit≤ tt) (add_small binary64 o.start _ latest_start (latest_end * most_rows) h by (lit≤ tt))

nodes_dense : (o : Object) (span : ℕ) → Small latest_start o.start → span ≤ latest_end → (k n : ℕ) (d : Density) → n + k ≤ most_rows + 1 → Dense d → Dense (nodes o span k n d)
unfolding nodes
nodes_dense o span h l zero n d few k = k
nodes_dense o span h l (suc m) n d few k =
    nodes_dense o span h l m (suc n) (compute_density (node_time o span n) d) (omega arith) (dense_next (node_time o span n) d (node_small o span n h l (omega arith)) k)

module _ (o : Object) (span : ℕ) (h : Small latest_start o.start) (l : span ≤ latest_end) where
  leaves_dense : (k : Kind) (d : Density) → FitKind k → Dense d → Dense (leaves o span k d)
  unfolding leaves
  leaves_dense Circle d f k = k
  leaves_dense (Slider repeats distance sound) d f k = nodes_dense o span h l (repeats + 2) 0 d (few repeats f.0) k
    where
      few : (n : ℕ) → n ≤ most_repeats → 0 + (n + 2) ≤ most_rows + 1
      few n h = omega arith
  leaves_dense (Spinner duration) d f k = dense_next _ d (ends_small o.start duration h (small_span duration f.inside)) k
  leaves_dense (Hold duration) d f k = dense_next _ d (ends_small o.start duration h (small_span duration f.inside)) k

  after_small : (k : Kind) → FitKind k → Small far (time_after o span k)
  unfolding time_after
  after_small Circle f = near h
  after_small (Slider repeats distance sound) f = node_small o span (repeats + 1) h l (few repeats f.0)
    where
      few : (n : ℕ) → n ≤ most_repeats → n + 1 ≤ most_rows
      few n h = omega arith
  after_small (Spinner duration) f = ends_small o.start duration h (small_span duration f.inside)
  after_small (Hold duration) f = ends_small o.start duration h (small_span duration f.inside)

meets_dense : (k : Kind) (start : Float) (d : Density) → Small far start → Dense d → Dense (meets k start d)
unfolding meets
meets_dense Circle start d h k = dense_next start d h k
meets_dense (Slider repeats distance sound) start d h k = k
meets_dense (Spinner duration) start d h k = k
meets_dense (Hold duration) start d h k = k

-- ---- a slider that made notes does not end too late

kind_timely : (f : Facts) (v : PrevValues) (columns : ℕ) (o : Object) (k : Kind) → Makes (λ (m : Made). Late f o k → ⊥) (by_kind f v columns o k)
unfolding Late by_kind PathObject.new PathObject.generate
kind_timely f v columns o Circle = Makes.less any (λ m u l. l)
kind_timely f v columns o (Slider repeats distance sound) =
    Makes.by (ltb PathObject.latest (PathObject.end_time f o (repeats + 1) distance)) _ _ (λ e. Makes.refusing)
    (λ e. Makes.less any (λ m u l. let z = ltb-false PathObject.latest (PathObject.end_time f o (repeats + 1) distance) e in omega arith))
kind_timely f v columns o (Spinner duration) = Makes.less any (λ m u l. l)
kind_timely f v columns o (Hold duration) = Makes.less any (λ m u l. l)

object_timely : (f : Facts) (v : PrevValues) (columns : ℕ) (o : Object) → Makes (λ (m : Made). Late f o o.kind → ⊥) (object f v columns o)
unfolding object
object_timely f v columns o = kind_timely f v columns o o.kind

span_le : (f : Facts) (o : Object) (k : Kind) → (Late f o k → ⊥) → span_in f o k ≤ latest_end
unfolding span_in PathObject.span_length Late
span_le f o Circle h = omega arith
span_le f o (Slider repeats distance sound) h =
    let end = PathObject.end_time f o (repeats + 1) distance in
    le_trans (div-le_self (end - PathObject.start_time o) (repeats + 1)) (most end (PathObject.start_time o) (ltb latest_end end) refl h)
  where
    most : (a b : ℕ) (t : Bool) → ltb latest_end a ≡ t → (latest_end < a → ⊥) → a - b ≤ latest_end
    most a b true e h = absurd (h (ltb-true latest_end a e))
    most a b false e h = let z = ltb-false latest_end a e in omega arith
span_le f o (Spinner duration) h = omega arith
span_le f o (Hold duration) h = omega arith

-- ---- positions

object_position : (o : Object) → FitObject o → position_fits o.position ≡ true
unfolding position_fits
object_position o h = rw (is_true (inside coordinate_range o.position.x) h.x.inside, is_true (inside coordinate_range o.position.y) h.y.inside)

after_position : (o : Object) (k : Kind) → FitObject o → position_fits (position_after o k) ≡ true
unfolding position_after position_fits in_range round le lt eq
after_position o Circle h = object_position o h
after_position o (Slider repeats distance sound) h = object_position o h
after_position o (Spinner duration) h = refl
after_position o (Hold duration) h = refl

-- ---- the walk

record Steady (w : Walk) : Type 0 where
  position : position_fits w.prev.position ≡ true
  time : Small far w.prev.time
  dense : Dense w.density

begins_steady : Steady beginning
unfolding beginning unknown_density position_fits in_range round le lt eq of_int
begins_steady =
    record { position = refl; time = more_small {p = 0} (lit≤ tt) (small_int 0 (lit≤ tt)); dense = record { times = tt; value = more_small {p = 2147483647} (lit≤ tt) (small_int 2147483647 (lit≤ tt)) } }

next_steady : (f : Facts) (o : Object) (made : Made) (w : Walk) → FitObject o → (Late f o o.kind → ⊥) → Steady w
    → Steady (after_object f o (meets o.kind o.start w.density) made w)
unfolding after_object walk_after
next_steady f o made w fit timely h =
    let start = small_span o.start fit.start.inside in
    let span = span_le f o o.kind timely in
    record {
      position = after_position o o.kind fit;
      time = after_small o _ start span o.kind fit.kind;
      dense = leaves_dense o _ start span o.kind _ fit.kind (meets_dense o.kind o.start w.density (near start) h.dense);
    }

walk_steady : (s : SongFacts) (columns k : ℕ) (w : Walk) (os : List Object) → Each FitObject os → Steady w → Makes Steady (walk_to s columns k w os)
unfolding walk_to
walk_steady s columns zero w os fit h = Makes.giving h
walk_steady s columns (suc k) w [] fit h = Makes.giving h
walk_steady s columns (suc k) w (o ∷ os) fit h =
    let f = facts_at s (meets o.kind o.start w.density) o in
    Makes.seq (object_timely f w.prev columns o) (λ made timely. walk_steady s columns k _ os fit.1 (next_steady f o made w fit.0 timely h))

-- ---- the points in force

beat_from_law : (beat : Float) (ps : List TimingPoint) (time : Float) → T (inside beat_range beat) → Each FitTiming ps → T (inside beat_range (beat_from beat ps time))
unfolding beat_from
beat_from_law beat [] time h k = h
beat_from_law beat (p ∷ ps) time h k = go (le p.time time) (beat_from_law p.beat ps time k.0.beat.inside k.1)
  where
    go : (b : Bool) → T (inside beat_range (beat_from p.beat ps time)) → T (inside beat_range (if b then beat_from p.beat ps time else beat))
    go true i = i
    go false i = h

beat_in : (ps : List TimingPoint) (time : Float) → Each FitTiming ps → T (inside beat_range (beat_at ps time))
unfolding beat_at in_range round le lt eq
beat_in [] time k = tt
beat_in (p ∷ ps) time k = beat_from_law p.beat ps time k.0.beat.inside k.1

velocity_from_law : (v : Float) (ps : List DifficultyPoint) (time : Float) → T (inside velocity_range v) → Each FitDifficulty ps → T (inside velocity_range (velocity_from v ps time))
unfolding velocity_from
velocity_from_law v [] time h k = h
velocity_from_law v (p ∷ ps) time h k = go (le p.time time) (velocity_from_law p.velocity ps time k.0.velocity.inside k.1)
  where
    go : (b : Bool) → T (inside velocity_range (velocity_from p.velocity ps time)) → T (inside velocity_range (if b then velocity_from p.velocity ps time else v))
    go true i = i
    go false i = h

one_in : T (inside velocity_range (double 1 1))
unfolding in_range round le lt eq
one_in = tt

velocity_in : (ps : List DifficultyPoint) (time : Float) → Each FitDifficulty ps → T (inside velocity_range (velocity_at ps time))
unfolding velocity_at
velocity_in ps time k = velocity_from_law (double 1 1) ps time one_in k

-- ---- the checks

distance_in : (d : Option Float) → FitDistance d → distance_fits d ≡ true
unfolding distance_fits
distance_in None h = refl
distance_in (Some d) h = is_true _ h.inside

node_in : (n : Option ℕ) → FitNode n → node_fits n ≡ true
unfolding node_fits
node_in None h = refl
node_in (Some s) h = lt-ltb s 16 h

kind_in : (k : Kind) → FitKind k → kind_fits k ≡ true
unfolding kind_fits
kind_in Circle h = refl
kind_in (Slider repeats distance sound) h = rw (le-leb repeats most_repeats h.0, distance_in distance h.1, node_in sound h.2)
kind_in (Spinner duration) h = is_true _ h.inside
kind_in (Hold duration) h = is_true _ h.inside

objects_in : (f : Facts) (v : PrevValues) (o : Object) → FitObject o → position_fits v.position ≡ true → Small far v.time → Small apart f.density → object_fits f v o ≡ true
unfolding object_fits
objects_in f v o h p t d =
    rw (object_position o h, is_true (inside span_range o.start) h.start.inside, lt-ltb o.sound 16 h.sound, kind_in o.kind h.kind, p, is_true (finite v.time) t.real, is_true (finite f.density) d.real)

-- all pass
none_fails : (f : Facts) (v : PrevValues) (columns : ℕ) (o : Object) → pattern_fits v columns ≡ true → settings_fit f ≡ true → points_fit f ≡ true → object_fits f v o ≡ true → entry_refusal f v columns o ≡ 0
unfolding entry_refusal
none_fails f v columns o a b c d = rw (a, b, c, d)

module _ (bytes : List ℕ) (s : Song) (p : parse bytes ≡ accepted s) where
  fit : FitSong s
  fit = fit_song bytes s p

  settings_in : (f : Facts) → f.multiplier ≡ s.settings.multiplier → f.difficulty ≡ difficulty_of s → settings_fit f ≡ true
  unfolding settings_fit of_int
  settings_in f m d =
      let t = difficulty_allowed s
      (record { hp = fit.settings.hp.inside; cs = fit.settings.cs.inside; od = fit.settings.od.inside; ar = fit.settings.ar.inside }) fit.few_objects in
      rw (m, d, is_true (inside multiplier_range s.settings.multiplier) fit.settings.multiplier.inside, t)

  step : (k a n : ℕ) (r : Random) (w : Walk) → run (reaches s k) (values a r) ≡ ended w n → (o : Object) (os : List Object) → drop k s.objects ≡ o ∷ os
      → entry_refusal (facts_at (song_facts s) (meets o.kind o.start w.density) o) w.prev (columns_of s) o ≡ 0
  unfolding song_facts facts_at reaches points_fit
  step k a n r w u o os e =
      let steady = ran Steady (reaches s k) (walk_steady (song_facts s) (columns_of s) k beginning s.objects fit.objects begins_steady).made r a w n u in
      let own : FitObject o = (subst (Each FitObject) e (each_drop FitObject k s.objects fit.objects)).0 in
      let start = small_span o.start own.start.inside in
      none_fails _ w.prev (columns_of s) o
      (reasons.reached s (few_columns s fit.keys) k a n r w u).fits
      (settings_in _ refl refl)
      (rw (is_true (inside beat_range (beat_at s.timing_points o.start)) (beat_in s.timing_points o.start fit.timing), is_true (inside velocity_range (velocity_at s.difficulty_points o.start)) (velocity_in s.difficulty_points o.start fit.difficulty)))
      (objects_in _ w.prev o own steady.position steady.time (meets_dense o.kind o.start w.density (near start) steady.dense).value)

pub entry_passes : (bytes : List ℕ) → EntryPasses bytes
entry_passes bytes = record { passes = step bytes }
