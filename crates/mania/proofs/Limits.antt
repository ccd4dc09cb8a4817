-- Every search of the conversion may make `search_limit` draws, and 16 comes from a search alone. Assumes nothing.
use Rattle.std.specs.Prelude.{if◌then◌else◌}
use mathlib.Core.Path.{◌≡◌, refl, ap}
use Prim.Native.Nat.{ℕ, zero, suc, ◌+◌, ◌-◌, ◌*◌, ◌≤◌}
use native.Mathlib.Omega.{arith}
use mathlib.Core.Bool.{Bool, true, false, ◌&&◌}
use mathlib.Core.List.{List, [], ◌∷◌}
use lib.Dec.{eqb, leb, ltb}
use lib.Ieee.{Float, lt}
use lib.ListN.{length}
use lib.Count.{ones}
use Rattle.rules.specs.Rule.{give, refuse, ◌>>=◌, refused}
use Rattle.rules.specs.Refusal.{Refusal, late_end, no_column, off_deck, too_short, long_search, ObjectRule}
use Rattle.rules.specs.Ledger.{largest}
use Rattle.rules.specs.Limited.{Limited, last_or}
use Rattle.rules.proofs.Laws.Limited.{bind_limited, label_limited, few, refused_full}
use Rattle.random.specs.Generator.{values, seeded}
use Rattle.random.specs.Play.{value}
use Rattle.model.specs.declared.Kind.{Kind}
use Rattle.model.specs.declared.Kind.TheVariants.{Circle, Slider, Spinner, Hold}
use Rattle.model.specs.declared.Object.{Object}
use Rattle.model.specs.Song.{Song}
use Rattle.mania.specs.declared.Facts.{Facts}
use Rattle.mania.specs.declared.PrevValues.{PrevValues}
use Rattle.mania.specs.declared.HitObjectPatternGenerator.{HitObjectPatternGenerator}
use Rattle.mania.specs.declared.PathObjectPatternGenerator.{PathObjectPatternGenerator}
use Rattle.mania.specs.declared.Next.{Next}
use Rattle.mania.specs.declared.Next.TheVariants.{Draw, Step}
use Rattle.mania.specs.declared.Note.{Note}
use Rattle.mania.specs.declared.SliderNote.{SliderNote}
use Rattle.model.specs.Sound.{clap, finish, has_flag}
use Rattle.mania.specs.Steps.{double}
use Rattle.mania.specs.PatternType.{contains, reverse, force_stack, force_not_stack, stair, reverse_stair, keep_single, mirror}
use Rattle.mania.specs.Pattern.{Pattern, free, any_free, empty, add}
use Rattle.model.specs.Limits.{search_limit}
use Rattle.mania.specs.PatternGenerator.{random_start, get_random_note_count, get_random_column, next_column, step_to, draw_to, search_on, column_search, find_available_column}
use Rattle.mania.specs.HitObject as HitObject
use Rattle.mania.specs.PathObject as PathObject
use Rattle.mania.specs.EndTimeObject as EndTimeObject
use Rattle.mania.specs.Object.{by_kind, object}
use Rattle.mania.specs.Convert.{Walk, SongFacts, song_facts, AtObject, at, seed, columns_of, beginning, meets, facts_at, after_object, object_in, walk, convert}
use Rattle.mania.specs.Single.{with_room}
use Rattle.mania.specs.Job.{under, ledger_under}
use Rattle.chart.specs.Layout.{chart_size, note_size}

-- ---- the steps of such a proof

abbrev pub Long : Refusal → Type 0
Long r = r ≡ long_search

-- a name for it, so that antt finds the rule that is spoken of
pub record Bound {A : Type 0} (m : ObjectRule A) : Type 0 where
  pub limits : Limited search_limit Long m

giving : {A : Type 0} {a : A} → Bound (give a)
giving = record { limits = tt }

-- the other refusals
abbrev is_long : Refusal → ℕ
is_long late_end = 0
is_long no_column = 0
is_long off_deck = 0
is_long too_short = 0
is_long long_search = 1

refusing : {A : Type 0} {r : Refusal} → is_long r ≡ 0 → Bound {A = A} (refuse r)
refusing {r = r} h = record { limits = λ (e : r ≡ long_search). let z = ap is_long e in omega arith }

seq : {A B : Type 0} {m : ObjectRule A} {f : A → ObjectRule B} → Bound m → ((a : A) → Bound (f a)) → Bound (m >>= f)
seq {m = m} {f = f} h g = record { limits = bind_limited search_limit Long m f h.limits (λ a. (g a).limits) }

by : {A : Type 0} (b : Bool) (m n : ObjectRule A) → Bound m → Bound n → Bound (if b then m else n)
by true m n h g = h
by false m n h g = g

valued : Bound value
valued = record { limits = λ v. tt }

added : {A : Type 0} (columns : ℕ) (note : A) (c : ℕ) (p : Pattern A) → Bound (add columns note c p)
unfolding add
added columns note c p = by (ltb c columns) _ _ giving (refusing refl)

-- ---- searches, columns and counts

stepping : (n columns taken c : ℕ) → Bound (step_to n columns taken c)
unfolding step_to
stepping zero columns taken c = refusing refl
stepping (suc n) columns taken c = by (free taken (next_column columns c)) _ _ giving (stepping n columns taken (next_column columns c))

onward : (next : Next) (columns c lower upper taken : ℕ) → Bound (search_on next columns c lower upper taken)
unfolding search_on draw_to
onward Draw columns c lower upper taken = record { limits = (refl, λ v n. tt) }
onward Step columns c lower upper taken = stepping columns columns taken c

find : (next : Next) (columns c lower upper taken : ℕ) → Bound (find_available_column next columns c lower upper taken)
unfolding find_available_column column_search
find next columns c lower upper taken =
    seq (by (free taken c) _ _ giving (by (any_free taken lower (upper - lower)) _ _ (onward next columns c lower upper taken) (refusing refl))) (λ s. giving)

column : (lower upper : ℕ) → Bound (get_random_column lower upper)
unfolding get_random_column
column lower upper = seq valued (λ v. giving)

count : (p2 p3 p4 p5 p6 : Float) → Bound (get_random_note_count p2 p3 p4 p5 p6)
unfolding get_random_note_count
count p2 p3 p4 p5 p6 = seq valued (λ v. giving)

-- ---- circles

module _ (g : HitObjectPatternGenerator) where
  note : (c : ℕ) (p : Pattern Note) → Bound (HitObject.add_note g c p)
  unfolding HitObject.add_note
  note c p = added g.columns _ c p

  each : (to : ℕ → ℕ) (n i : ℕ) (p : Pattern Note) → Bound (HitObject.add_each g to n i p)
  unfolding HitObject.add_each HitObject.add_one
  each to zero i p = giving
  each to (suc n) i p = seq (by (free g.mask i) _ _ giving (note (to i) p)) (λ q. each to n (suc i) q)

  randoms : (barred n c : ℕ) (p : Pattern Note) → Bound (HitObject.add_random g barred n c p)
  unfolding HitObject.add_random
  randoms barred zero c p = giving
  randoms barred (suc n) c p = seq (find _ _ _ _ _ _) (λ d. seq (note d p) (λ q. randoms barred n d q))

  random_notes : (n : ℕ) → Bound (HitObject.generate_random_notes g n)
  unfolding HitObject.generate_random_notes
  random_notes n = by (contains g.flags force_not_stack) _ _ (randoms _ _ _ empty) (randoms _ _ _ empty)

  special : (p : Pattern Note) → Bound (HitObject.add_special g p)
  unfolding HitObject.add_special
  special p = by (ltb 0 (random_start g.columns) && (has_flag g.sound clap && has_flag g.sound finish)) _ _ (note 0 p) giving

  pattern : (c : HitObject.Chances) → Bound (HitObject.generate_random_pattern g c)
  unfolding HitObject.generate_random_pattern HitObject.count_of
  pattern c = seq (count _ _ _ _ _) (λ n. seq (random_notes n) special)

  mirrors : (n c : ℕ) (p : Pattern Note) → Bound (HitObject.add_mirrored g n c p)
  unfolding HitObject.add_mirrored HitObject.add_pair
  mirrors zero c p = giving
  mirrors (suc n) c p = seq (find _ _ _ _ _ _) (λ d. seq (seq (note d p) (note _)) (λ q. mirrors n d q))

  mirrored : (m : HitObject.Mirrored) → Bound (HitObject.mirror_notes g m)
  unfolding HitObject.mirror_notes HitObject.mirror_from HitObject.add_centre
  mirrored m = seq valued (λ v. seq (count _ _ _ _ _) (λ n. seq (column _ _) (λ c. seq (mirrors n c empty) (λ p. seq (by (HitObject.at_centre _ _ _ _) _ _ (note _ p) giving) special))))

  with_mirrored : (m : HitObject.Mirrored) → Bound (HitObject.generate_random_pattern_with_mirrored g m)
  unfolding HitObject.generate_random_pattern_with_mirrored
  with_mirrored m = by (contains g.flags force_not_stack) _ _ (pattern _) (mirrored m)

  core : Bound (HitObject.generate_core g)
  unfolding HitObject.generate_core HitObject.reversed HitObject.stacked
  core =
      by (eqb g.columns 1) _ _ (note 0 empty)
      (by (contains g.flags reverse && HitObject.some g) _ _ (each _ _ _ empty)
      (by (HitObject.cycles g) _ _ (note _ empty)
      (by (contains g.flags force_stack && HitObject.some g) _ _ (each _ _ _ empty)
      (by (HitObject.alone g && contains g.flags stair) _ _ (note _ empty)
      (by (HitObject.alone g && contains g.flags reverse_stair) _ _ (note _ empty)
      (by (contains g.flags keep_single) _ _ (random_notes 1)
      (by (contains g.flags mirror) _ _ (with_mirrored _) (pattern _))))))))

  circles : Bound (HitObject.generate g)
  unfolding HitObject.generate
  circles = seq core (λ p. giving)

-- ---- sliders

module _ (g : PathObjectPatternGenerator) where
  bar : (c s e : ℕ) (p : Pattern SliderNote) → Bound (PathObject.add_slider_note g c s e p)
  unfolding PathObject.add_slider_note
  bar c s e p = added g.columns _ c p

  find_column_law : (c taken : ℕ) → Bound (PathObject.find_column g c taken)
  unfolding PathObject.find_column
  find_column_law c taken = find _ _ _ _ _ _

  any_column_law : Bound (PathObject.any_column g)
  unfolding PathObject.any_column
  any_column_law = column _ _

  head : (flags : ℕ) → Bound (PathObject.head_column g flags)
  unfolding PathObject.head_column
  head flags = by (contains flags force_not_stack && ltb (ones g.mask) g.columns) _ _ (find_column_law _ _) giving

  holds : (barred n c : ℕ) (p : Pattern SliderNote) → Bound (PathObject.add_holds g barred n c p)
  unfolding PathObject.add_holds
  holds barred zero c p = giving
  holds barred (suc n) c p = seq (find_column_law _ _) (λ d. seq (bar d _ _ p) (λ q. holds barred n d q))

  hold_notes : (n : ℕ) → Bound (PathObject.generate_random_hold_notes g n)
  unfolding PathObject.generate_random_hold_notes
  hold_notes n = seq any_column_law (λ c. seq (holds _ _ c empty) (λ r. seq (holds _ _ r.0 r.1) (λ s. giving)))

  row : (n time c : ℕ) (p : Pattern SliderNote) → Bound (PathObject.add_row g n time c p)
  unfolding PathObject.add_row
  row zero time c p = giving
  row (suc n) time c p = seq (bar c _ _ p) (λ q. seq (find_column_law _ _) (λ d. row n _ d q))

  slider_notes : (flags n : ℕ) → Bound (PathObject.generate_random_notes g flags n)
  unfolding PathObject.generate_random_notes
  slider_notes flags n = seq (head flags) (λ c. row n _ c empty)

  stairs : (n time c : ℕ) (up : Bool) (p : Pattern SliderNote) → Bound (PathObject.add_stair g n time c up p)
  unfolding PathObject.add_stair
  stairs zero time c up p = giving
  stairs (suc n) time c up p = seq (bar c _ _ p) (λ q. stairs n _ _ _ q)

  stair_notes : Bound (PathObject.generate_stair g)
  unfolding PathObject.generate_stair
  stair_notes = seq valued (λ v. stairs _ _ _ _ empty)

  rows : (interval n time c : ℕ) (p : Pattern SliderNote) → Bound (PathObject.add_rows g interval n time c p)
  unfolding PathObject.add_rows
  rows interval zero time c p = giving
  rows interval (suc n) time c p =
      seq (bar c _ _ p) (λ q. seq (by (ltb 2 g.columns) _ _ (bar _ _ _ q) giving) (λ r. seq any_column_law (λ d. rows interval n _ d r)))

  multiple : Bound (PathObject.generate_random_multiple_notes g)
  unfolding PathObject.generate_random_multiple_notes
  multiple = seq valued (λ v. rows _ _ _ _ empty)

  n_notes : (c : PathObject.Chances) → Bound (PathObject.generate_n_random_notes g c)
  unfolding PathObject.generate_n_random_notes
  n_notes c = seq (count _ _ _ _ _) hold_notes

  tiles : (end n time c : ℕ) (p : Pattern SliderNote) → Bound (PathObject.add_tiles g end n time c p)
  unfolding PathObject.add_tiles
  tiles end zero time c p = giving
  tiles end (suc n) time c p = seq (find_column_law _ _) (λ d. seq (bar d _ _ p) (λ q. tiles end n _ d q))

  tiled : Bound (PathObject.generate_tiled_hold_notes g)
  unfolding PathObject.generate_tiled_hold_notes
  tiled = seq (head _) (λ c. tiles _ _ _ c empty)

  beside : (hold time n c row : ℕ) (p : Pattern SliderNote) → Bound (PathObject.add_beside g hold time n c row p)
  unfolding PathObject.add_beside
  beside hold time zero c row p = giving
  beside hold time (suc n) c row p = seq (find_column_law _ _) (λ d. seq (bar d _ _ p) (λ q. beside hold time n d _ q))

  besides : (hold : ℕ) (bare : Bool) (k n time c : ℕ) (p : Pattern SliderNote) → Bound (PathObject.add_besides g hold bare k n time c p)
  unfolding PathObject.add_besides
  besides hold bare k zero time c p = giving
  besides hold bare k (suc n) time c p = seq (beside hold time _ c 0 p) (λ r. besides hold bare k n _ r.0 r.1)

  beside_count_law : Bound (PathObject.beside_count g)
  unfolding PathObject.beside_count PathObject.one_or_two
  beside_count_law =
      by (lt (double 65 10) g.difficulty) _ _ (count _ _ _ _ _)
      (by (lt (double 4 1) g.difficulty) _ _ (count _ _ _ _ _) (by (lt (double 25 10) g.difficulty) _ _ (count _ _ _ _ _) giving))

  hold_and_normal : Bound (PathObject.generate_hold_and_normal_notes g)
  unfolding PathObject.generate_hold_and_normal_notes
  hold_and_normal = seq (head _) (λ hold. seq (bar hold _ _ empty) (λ p. seq any_column_law (λ c. seq beside_count_law (λ n. besides hold _ _ _ _ c p))))

  spans : Bound (PathObject.generate_spans g)
  unfolding PathObject.generate_spans
  spans =
      by (leb g.length 90) _ _ (hold_notes 1)
      (by (leb g.length 120) _ _ (slider_notes _ _)
      (by (leb g.length 160) _ _ stair_notes
      (by (leb g.length 200 && lt (double 3 1) g.difficulty) _ _ multiple
      (by (leb 4000 (g.end - g.start)) _ _ (n_notes _)
      (by (ltb 400 g.length && ltb g.spans (PathObject.tile_limit g.columns)) _ _ tiled hold_and_normal)))))

  span : Bound (PathObject.generate_span g)
  unfolding PathObject.generate_span
  span = by (leb g.length 110) _ _ (slider_notes _ _) (n_notes _)

  sliders : Bound (PathObject.generate g)
  unfolding PathObject.generate PathObject.generate_core
  sliders =
      by (ltb PathObject.latest g.end) _ _ (refusing refl)
      (seq (by (eqb g.columns 1) _ _ (bar 0 _ _ empty) (by (ltb 1 g.spans) _ _ spans span)) (λ p. giving))

-- ---- spinners and holds

ends : (v : PrevValues) (columns : ℕ) (o : Object) (duration : Float) → Bound (EndTimeObject.generate v columns o duration)
unfolding EndTimeObject.generate EndTimeObject.note_column EndTimeObject.end_column
ends v columns o duration =
    seq
    (by (eqb columns 8 && has_flag o.sound finish && lt (EndTimeObject.lasting o duration) (double 1000 1)) _ _ giving
    (seq (column _ _) (λ c. find _ _ _ _ _ _)))
    (λ c. seq (added columns _ c empty) (λ p. giving))

-- ---- an object, the single-object entry, the walk

kinds : (f : Facts) (v : PrevValues) (columns : ℕ) (o : Object) (k : Kind) → Bound (by_kind f v columns o k)
unfolding by_kind
kinds f v columns o Circle = circles (HitObject.new f v columns o)
kinds f v columns o (Slider repeats distance sound) = sliders (PathObject.new f v columns o repeats distance sound)
kinds f v columns o (Spinner duration) = ends v columns o duration
kinds f v columns o (Hold duration) = ends v columns o duration

objects : (f : Facts) (v : PrevValues) (columns : ℕ) (o : Object) → Bound (object f v columns o)
unfolding object
objects f v columns o = kinds f v columns o o.kind

pub room_bound : (f : Facts) (v : PrevValues) (columns : ℕ) (o : Object) (room : ℕ) → Bound (with_room f v columns o room)
unfolding with_room
room_bound f v columns o room = seq (objects f v columns o) (λ m. by (ltb room (note_size * length m.notes)) _ _ (refusing refl) giving)

in_walk : (columns room : ℕ) (f : Facts) (w : Walk) (o : Object) → Bound (object_in columns room f w o)
unfolding object_in
in_walk columns room f w o = seq (objects f w.prev columns o) (λ m. by (ltb room (chart_size (w.notes + length m.notes))) _ _ (refusing refl) giving)

-- at an object
abbrev LongAt : AtObject → Type 0
LongAt r = r.refusal ≡ long_search

walks : (s : SongFacts) (columns room i : ℕ) (w : Walk) (os : List Object) → Limited search_limit LongAt (walk s columns room i w os)
unfolding walk
walks s columns room i w [] = tt
walks s columns room i w (o ∷ os) =
    let d = meets o.kind o.start w.density in
    let f = facts_at s d o in
    bind_limited search_limit LongAt _ _ (label_limited search_limit LongAt (λ p. i) (at i) (object_in columns room f w o) (in_walk columns room f w o).limits)
    (λ made. bind_limited search_limit LongAt (walk s columns room (suc i) (after_object f o d made w) os) _ (walks s columns room (suc i) (after_object f o d made w) os) (λ rest. tt))

convert_limited : (s : Song) (room : ℕ) → Limited search_limit LongAt (convert s room)
unfolding convert
convert_limited s room = go (ltb room 8)
  where
    go : (b : Bool) → Limited search_limit LongAt (if b then refuse (at 0 too_short) else walk (song_facts s) (columns_of s) room 0 beginning s.objects)
    go true = λ (e : too_short ≡ long_search). let z = ap is_long e in omega arith
    go false = walks (song_facts s) (columns_of s) room 0 beginning s.objects

-- ---- what follows for a song

module _ (s : Song) (buffer : List ℕ) (a : ℕ) where
  -- no search makes more draws than the limit
  pub job_few : largest (ledger_under s buffer a).searches ≤ search_limit
  unfolding ledger_under
  job_few = few search_limit LongAt (convert s (length buffer)) (convert_limited s (length buffer)) (values a (seeded (seed s.settings)))

  -- 16: the last search has made as many
  pub job_long : (i n : ℕ) → under s buffer a ≡ refused (at i long_search) n → last_or 0 (ledger_under s buffer a).searches ≡ search_limit
  unfolding under ledger_under
  job_long i n e = refused_full search_limit LongAt (convert s (length buffer)) (convert_limited s (length buffer)) (values a (seeded (seed s.settings))) (at i long_search) n e refl
