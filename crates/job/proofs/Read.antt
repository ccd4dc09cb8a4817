-- The chart of an accepted job is read: each note is one that the chart reader takes. Assumes nothing.
use mathlib.Core.Path.{◌≡◌, refl, sym, ap, ◌∙◌, subst}
use Prim.Native.Nat.{ℕ, suc, ◌+◌, ◌-◌, ◌*◌, ◌^◌, ◌≤◌, ◌<◌}
use native.Mathlib.Nat.{le_trans, le_refl, mul-le-mul_left, lt_of_le_of_lt, lt_of_lt_of_le, zero-add}
use native.Mathlib.Omega.{arith}
use mathlib.Core.List.{List, [], ◌∷◌, ◌++◌, map}
use mathlib.Core.Option.{some}
use lib.Dec.{lit<, lit≤}
use borrow.Author.Tests.{ltb-true}
use lib.ListN.{length, take, drop, length-append, length-drop}
use lib.Seq.{take_at}
use Rattle.model.specs.Limits.{most_repeats, most_spans, most_notes, most_entries, latest_start}
use Rattle.rules.specs.Rule.{Outcome, ended, run, taken, Done}
use Rattle.rules.specs.Rule as Rule
use Rattle.rules.specs.Each.{EveryTwo}
use Rattle.rules.specs.Laws.Each.{each_append, each_map}
use Rattle.random.specs.Generator.{values, seeded}
use Rattle.random.specs.Laws.Allowance.{done_le}
use Rattle.chart.specs.Tests.{passes}
use Rattle.chart.specs.Layout.{indices}
use Rattle.chart.specs.declared.Version.TheVariants.{Two}
use Rattle.chart.specs.declared.Note as Patterns
use Rattle.chart.specs.Lanes.{extent_of, extent, Apart}
use Rattle.chart.specs.Laws.Times.{time_to_bits}
use Rattle.chart.specs.Chart.{encode, decode, ok_note, note_tests, Tells}
use Rattle.chart.specs.Layout.{chart_size}
use Rattle.chart.specs.Laws.Notes.{length_encode, Fit, Fits}
use Rattle.chart.specs.Laws.Reader.{note_fits}
use Rattle.chart.specs.Order.{arranged}
use Rattle.chart.specs.Laws.Order.{length_arranged, each_arranged, two_arranged}
use Rattle.chart.specs.Written.{Alone, written_read}
use Rattle.mania.specs.declared.Note.{Note}
use Rattle.model.specs.declared.Object.{Object}
use Rattle.model.specs.declared.Kind.{Kind}
use Rattle.model.specs.declared.Kind.TheVariants.{Circle, Slider, Spinner, Hold}
use Rattle.mania.specs.LimitedQueue.{Density}
use Rattle.mania.specs.Chart.{pattern_of, patterns_from, in_walk_order, written}
use Rattle.model.specs.Song.{Song}
use Rattle.mania.specs.Convert.{AtObject, seed, columns_of, song_facts, facts_at, convert}
use Rattle.mania.specs.Job.{ending, refusing, under}
use Rattle.mania.specs.Job as OfSong
use Rattle.mania.specs.Demand.{Each}
use Rattle.mania.specs.Demand as Draws
use Rattle.mania.proofs.Demand.{Fine, Sound, ended_notes, some_columns, few_columns}
use Rattle.mania.specs.Laws.Walks.{length_patterns}
use Rattle.mania.proofs.Counts.{ended_few, ended_room, ended_lists}
use Rattle.record.specs.Record.{Parsed, refused, accepted, parse}
use Rattle.job.specs.Job.{job_of, job, columns_in, columns, draws_of, draws, notes_in, notes_of, notes}
use Rattle.job.specs.Read.{chart_notes, Reads}
use Rattle.job.proofs.Numbers.{accepted_keys}
use Rattle.job.proofs.Demand.{refuses, accepted_ended}
use Rattle.job.proofs.Times.{Span, Okay, circle_notes, end_notes, bar_notes}
use Rattle.job.proofs.Ranges.{FitKind, FitObject, FitSong, fit_song, objects_in_range}
use Rattle.job.proofs.Sliders.{beat_at_law, velocity_at_law, not_before}

-- ---- the notes that can come from the objects of an accepted record

kind_fine : (columns : ℕ) (s : Song) (d : Density) (o : Object) (k : Kind) → FitSong s → Span latest_start o.start → FitKind k
    → Fine (Okay columns) (facts_at (song_facts s) d o) columns o k
unfolding facts_at song_facts
kind_fine columns s d o Circle fit h g = circle_notes columns o.start h
kind_fine columns s d o (Slider repeats distance sound) fit h g =
    let later = not_before (facts_at (song_facts s) d o) o (repeats + 1) distance (spans repeats g.0) g.1 (velocity_at_law s.difficulty_points o.start fit.velocities)
    (beat_at_law s.timing_points o.start fit.beats) fit.multiplier in (
      λ c t e on l m late. bar_notes columns c t e on l (le_trans m late),
      λ c on late. bar_notes columns c _ _ on later late,
      λ c on late. bar_notes columns c _ _ on (le_refl _) (le_trans later late),
    )
  where
    spans : (n : ℕ) → n ≤ most_repeats → n + 1 ≤ most_spans
    spans n h = omega arith
kind_fine columns s d o (Spinner duration) fit h g = end_notes columns o duration h g
kind_fine columns s d o (Hold duration) fit h g = end_notes columns o duration h g

objects_fine : (columns : ℕ) (s : Song) → FitSong s → (os : List Object) → Each FitObject os
    → Each (λ o. (d : Density) → Fine (Okay columns) (facts_at (song_facts s) d o) columns o o.kind) os
objects_fine columns s fit [] h = tt
objects_fine columns s fit (o ∷ os) h =
    (λ d. kind_fine columns s d o o.kind fit h.0.0 h.0.1, objects_fine columns s fit os h.1)

-- ---- from the notes of each object to those of the chart

-- of the notes of each object, the first of them at index i, with what holds of each
from_each : (P : Note → Type 0) (Q : Patterns.Note → Type 0) → ((i : ℕ) (n : Note) → i < indices → P n → Q (pattern_of i n))
    → (i : ℕ) (nss : List (List Note)) → i + length nss ≤ indices → Each (Each P) nss → Each Q (patterns_from i nss)
unfolding patterns_from
from_each P Q f i [] l h = tt
from_each P Q f i (ns ∷ nss) l h = each_append Q (map (pattern_of i) ns) (patterns_from (suc i) nss) (here ns h.0) (from_each P Q f (suc i) nss (omega arith) h.1)
  where
    here : (ns : List Note) → Each P ns → Each Q (map (pattern_of i) ns)
    here [] e = tt
    here (n ∷ ns) e = (f i n (omega arith) e.0, here ns e.1)

okay_fit : (columns : ℕ) → columns ≤ 9 → (i : ℕ) (n : Note) → i < indices → Okay columns n → Fit Two (pattern_of i n)
unfolding ok_note note_tests pattern_of Tells
okay_fit columns c i n l h =
    let f = note_fits columns 0 (pattern_of i n) (h.taken i) in
    record {
      column = omega (arith, ltb-true n.column columns (passes (note_tests columns 0 (pattern_of i n)) (h.taken i) 0));
      told = l;
      start = lt_of_lt_of_le f.0 (lit≤ tt);
      duration = lt_of_lt_of_le f.1 (lit≤ tt);
    }

okay_on : (columns i : ℕ) (n : Note) → Okay columns n → (pattern_of i n).column < columns
unfolding ok_note note_tests
okay_on columns i n h = ltb-true (pattern_of i n).column columns (passes (note_tests columns 0 (pattern_of i n)) (h.taken i) 0)

-- ---- lanes by the notes of a chart

-- two notes of one object do not share a lane
abbrev Parted : Patterns.Note → Patterns.Note → Type 0
Parted n m = n.origin ≡ m.origin → Apart (extent n) (extent m)

turned : (n m : Patterns.Note) → Parted n m → Parted m n
unfolding Apart
turned n m h o c t k l = h (sym o) (sym c) t l k

extent_is : (columns i : ℕ) (n : Note) → Okay columns n → extent (pattern_of i n) ≡ Draws.extent n
unfolding pattern_of extent extent_of
extent_is columns i n h = rw (time_to_bits n.start h.exact, time_to_bits n.duration h.lasts_exact)

module _ (columns : ℕ) where
  -- within an object
  own_lanes : (i : ℕ) (n : Note) (ns : List Note) → Okay columns n → Each (Okay columns) ns → Each (λ m. Apart (Draws.extent n) (Draws.extent m)) ns
      → Each (Parted (pattern_of i n)) (map (pattern_of i) ns)
  own_lanes i n [] h e a = tt
  own_lanes i n (m ∷ ms) h e a =
      (λ o. rw (extent_is columns i n h, extent_is columns i m e.0) a.0, own_lanes i n ms h e.1 a.1)

  -- later objects have other indices
  other_lanes : (i k : ℕ) (n : Note) (nss : List (List Note)) → i < k → Each (Parted (pattern_of i n)) (patterns_from k nss)
  unfolding patterns_from pattern_of
  other_lanes i k n [] l = tt
  other_lanes i k n (ms ∷ nss) l =
      each_append (Parted (pattern_of i n)) (map (pattern_of k) ms) (patterns_from (suc k) nss) (here ms) (other_lanes i (suc k) n nss (omega arith))
    where
      here : (ms : List Note) → Each (Parted (pattern_of i n)) (map (pattern_of k) ms)
      here [] = tt
      here (m ∷ ms) = (λ o. let same : i ≡ k = cc in absurd (omega arith), here ms)

  every_lane : (i : ℕ) (nss : List (List Note)) → Each (Each (Okay columns)) nss → Each Draws.Lanes nss → EveryTwo Parted (patterns_from i nss)
  unfolding patterns_from
  every_lane i [] h a = tt
  every_lane i (ns ∷ nss) h a = go ns h.0 a.0 (every_lane (suc i) nss h.1 a.1)
    where
      go : (ns : List Note) → Each (Okay columns) ns → Draws.Lanes ns → EveryTwo Parted (patterns_from (suc i) nss) → EveryTwo Parted (map (pattern_of i) ns ++ patterns_from (suc i) nss)
      go [] e b rest = rest
      go (n ∷ ns) e b rest = (
        each_append (Parted (pattern_of i n)) (map (pattern_of i) ns) (patterns_from (suc i) nss) (own_lanes i n ns e.0 e.1 b.0) (other_lanes i (suc i) n nss (omega arith)),
        go ns e.1 b.1 rest,
      )

module _ (s buffer : List ℕ) (r : Song) (e : parse s ≡ accepted r) (a n : ℕ) (nss : List (List Note)) (u : under r buffer a ≡ ended nss n) where
  sound_all : Each (Sound (Okay (columns_of r))) nss
  sound_all =
      let fit = fit_song s r e in
      ended_notes (Okay (columns_of r)) r buffer (objects_fine (columns_of r) r fit r.objects fit.objects) a n nss u

  okay_all : Each (Each (Okay (columns_of r))) nss
  okay_all = each_map (Sound (Okay (columns_of r))) (Each (Okay (columns_of r))) (λ ns h. h.1) nss sound_all

  few_lists : 0 + length nss ≤ indices
  few_lists = let fit = fit_song s r e in omega (arith, ended_lists r buffer a n nss u, fit.few)

  -- the notes fit the fields of a chart
  pub fits_all : Fits Two (patterns_from 0 nss)
  fits_all = from_each (Okay (columns_of r)) (Fit Two) (okay_fit (columns_of r) (few_columns r (accepted_keys s r e))) 0 nss few_lists okay_all

  drawn : n ≤ a
  unfolding under taken
  drawn =
      let m = convert r (length buffer) in
      let st = seeded (seed r.settings) in
      let d : Done (run m (values a st)) = subst Done (sym u) tt in
      subst (λ (o : Outcome ℕ AtObject (List (List Note))). taken o ≤ a) u (done_le m st a d)

  few_all : length (in_walk_order nss) ≤ most_notes * most_entries
  few_all =
      let fit = fit_song s r e in
      le_trans (ended_few r buffer (few_columns r (accepted_keys s r e)) (objects_in_range s r e) a n nss u) (mul-le-mul_left most_notes fit.few)

  module _ (small : a < 2 ^ 32) where
    pub read_back : decode (encode Two (columns_of r) n (arranged [] (patterns_from 0 nss)))
        ≡ some (record { version = Two; columns = columns_of r; draws = n; notes = arranged [] (patterns_from 0 nss) })
    read_back =
        written_read Two (columns_of r) n (patterns_from 0 nss) (some_columns r) (few_columns r (accepted_keys s r e))
        (lt_of_le_of_lt drawn small) (rw (length_patterns 0 nss) (lt_of_le_of_lt few_all (lit< tt)))
        (from_each (Okay (columns_of r)) (Alone (columns_of r)) (λ i n l h. h.taken i) 0 nss few_lists okay_all)
        (each_map (Fit Two) (λ n. Tells Two n.origin) (λ n f. f.told) (patterns_from 0 nss) fits_all)

  -- each of them lies on the deck, and no two of one object share a lane
  pub deck_all : Each (λ n. n.column < columns_of r) (arranged [] (patterns_from 0 nss))
  deck_all = each_arranged (λ n. n.column < columns_of r) [] (patterns_from 0 nss) tt (from_each (Okay (columns_of r)) (λ n. n.column < columns_of r) on 0 nss few_lists okay_all)
    where
      on : (i : ℕ) (n : Note) → i < indices → Okay (columns_of r) n → (pattern_of i n).column < columns_of r
      on i n l h = okay_on (columns_of r) i n h

  pub lanes_all : EveryTwo Parted (arranged [] (patterns_from 0 nss))
  lanes_all = two_arranged Parted turned (patterns_from 0 nss) (every_lane (columns_of r) 0 nss okay_all (each_map (Sound (Okay (columns_of r))) Draws.Lanes (λ ns h. h.0) nss sound_all))

-- ---- the job

chart_of : (c : ℕ) (buffer : List ℕ) (g : ℕ) (o : Outcome ℕ AtObject (List (List Note))) (n k : ℕ) → (ending c buffer g o).answer ≡ OfSong.accepted n k
    → ((ending c buffer g o).chart ≡ written (encode Two c (taken o) (arranged [] (patterns_from 0 (notes_in o)))) buffer)
    × (n ≡ length (encode Two c (taken o) (arranged [] (patterns_from 0 (notes_in o)))))
unfolding ending refusing taken notes_in
chart_of c buffer g (ended nss m) n k e = (refl, sym (ap told e))
  where
    told : OfSong.Answer → ℕ
    told (OfSong.accepted n g) = n
    told (OfSong.refusal r i n) = 0
chart_of c buffer g (Rule.refused q m) n k e = let z : ◌≡◌ {A = ℕ} 1 0 = ap refuses e in absurd (omega arith)
chart_of c buffer g (Rule.spent q m) n k e = let z : ◌≡◌ {A = ℕ} 1 0 = ap refuses e in absurd (omega arith)

take_written : (bytes buffer : List ℕ) → take (length bytes) (written bytes buffer) ≡ bytes
unfolding written
take_written bytes buffer = take_at bytes (drop (length bytes) buffer) (length bytes) refl

length_written : (bytes buffer : List ℕ) → length bytes ≤ length buffer → length (written bytes buffer) ≡ length buffer
unfolding written
length_written bytes buffer h = length-append bytes (drop (length bytes) buffer) ∙ ap (λ (k : ℕ). length bytes + k) (length-drop (length bytes) buffer) ∙ rest (length bytes) (length buffer) h
  where
    rest : (a b : ℕ) → a ≤ b → a + (b - a) ≡ b
    rest a b h = omega arith

-- of what was parsed
record ReadsOf (c d : ℕ) (nss : List (List Note)) (buffer : List ℕ) (a n : ℕ) : Type 0 where
  long : n ≡ length (encode Two c d (arranged [] (patterns_from 0 nss)))
  room : length (encode Two c d (arranged [] (patterns_from 0 nss))) ≤ length buffer
  few : length (in_walk_order nss) ≤ most_notes * most_entries
  deck : Each (λ n. n.column < c) (arranged [] (patterns_from 0 nss))
  lanes : EveryTwo Parted (arranged [] (patterns_from 0 nss))
  read : a < 2 ^ 32 → decode (encode Two c d (arranged [] (patterns_from 0 nss)))
      ≡ some (record { version = Two; columns = c; draws = d; notes = arranged [] (patterns_from 0 nss) })

reads_of : (s buffer : List ℕ) (p : Parsed) → parse s ≡ p → (a n g : ℕ) → (job_of p buffer a).answer ≡ OfSong.accepted n g
    → ((job_of p buffer a).chart ≡ written (encode Two (columns_in p) (draws_of p buffer a) (arranged [] (patterns_from 0 (notes_of p buffer a)))) buffer)
    × ReadsOf (columns_in p) (draws_of p buffer a) (notes_of p buffer a) buffer a n
unfolding job_of columns_in draws_of notes_of refusing OfSong.job Draws.draws
reads_of s buffer (refused m) e a n g h = let z : ◌≡◌ {A = ℕ} 1 0 = ap refuses h in absurd (omega arith)
reads_of s buffer (accepted r) e a n g h =
    let c = columns_of r in
    let o = under r buffer a in
    let u : o ≡ ended (notes_in o) (taken o) = accepted_ended c buffer _ o n g h in
    let k = chart_of c buffer _ o n g h in (
      k.0,
      record {
        long = k.1;
        room =
            let ns = patterns_from 0 (notes_in o) in
            rw (length_encode Two c (taken o) (arranged [] ns), length_arranged [] ns, zero-add (length ns), length_patterns 0 (notes_in o))
            (ended_room r buffer a (taken o) (notes_in o) u);
        few = few_all s buffer r e a (taken o) (notes_in o) u;
        deck = deck_all s buffer r e a (taken o) (notes_in o) u;
        lanes = lanes_all s buffer r e a (taken o) (notes_in o) u;
        read = λ small. read_back s buffer r e a (taken o) (notes_in o) u small;
      },
    )

pub reads : (s buffer : List ℕ) → Reads s buffer
unfolding job columns draws notes chart_notes
reads s buffer =
    record {
      chart = λ a n g h. (reads_of s buffer (parse s) refl a n g h).0;
      long = λ a n g h. (reads_of s buffer (parse s) refl a n g h).1.long;
      room = λ a n g h.
          let k = reads_of s buffer (parse s) refl a n g h in
          let b : List ℕ = encode Two (columns s) (draws s buffer a) (chart_notes s buffer a) in
          (subst (λ (i : ℕ). i ≤ length buffer) (sym k.1.long) k.1.room, ap length k.0 ∙ length_written b buffer k.1.room);
      read = λ a n g small h. found a n g small h;
      lanes = λ a n g small h. let k = reads_of s buffer (parse s) refl a n g h in
          record { score = _; read = found a n g small h; deck = k.1.deck; lanes = k.1.lanes };
    }
  where
    found : (a n g : ℕ) → a < 2 ^ 32 → (job s buffer a).answer ≡ OfSong.accepted n g
        → decode (take n (job s buffer a).chart) ≡ some (record { version = Two; columns = columns s; draws = draws s buffer a; notes = chart_notes s buffer a })
    found a n g small h =
        let k = reads_of s buffer (parse s) refl a n g h in
        let b : List ℕ = encode Two (columns s) (draws s buffer a) (chart_notes s buffer a) in
        let taken_is : take n (job s buffer a).chart ≡ b =
        ap (λ (i : ℕ). take i (job s buffer a).chart) k.1.long ∙ ap (take (length b)) k.0 ∙ take_written b buffer in
        ap decode taken_is ∙ k.1.read small

-- no chart is longer than that of the most objects, each with the most notes
pub chart_few : (s buffer : List ℕ) (a n g : ℕ) → (job s buffer a).answer ≡ OfSong.accepted n g → n ≤ chart_size (most_notes * most_entries)
unfolding job
chart_few s buffer a n g h =
    let k = (reads_of s buffer (parse s) refl a n g h).1 in
    let ns = patterns_from 0 (notes_of (parse s) buffer a) in
    let size = k.long ∙ length_encode Two _ _ (arranged [] ns) in
    size_few n (length (in_walk_order (notes_of (parse s) buffer a)))
    (rw (size, length_arranged [] ns, zero-add (length ns), length_patterns 0 (notes_of (parse s) buffer a))) k.few
  where
    size_few : (n k : ℕ) → n ≡ chart_size k → k ≤ most_notes * most_entries → n ≤ chart_size (most_notes * most_entries)
    size_few n k e h = omega arith
