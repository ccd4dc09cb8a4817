-- The reader's tests, one after another, and its answers.
-- Assumes nothing.
use Rattle.std.specs.Prelude.{◌≡◌, refl, Bool, true, false, ◌&&◌, List, [], ◌∷◌, leb, ltb, eqb, length, get_or, drop}
use Rattle.std.proofs.Common.{sym, ap, ◌∙◌, ne_eqb, eq-eqb, le-leb, eqb-true, leb-true, ltb-true}
use Rattle.std.proofs.Math.Bool.{and-false, and-true}
use Rattle.std.proofs.Math.Option.{Option, none, some, some-injective}
use Prim.Native.Nat.{ℕ, zero, suc, ◌+◌, ◌-◌, ◌*◌, ◌/◌, ◌%◌, ◌≤◌, ◌<◌, zero-le}
use native.Mathlib.Omega.{arith}
use Rattle.std.proofs.Math.Seq.{drop-drop}
use Rattle.std.proofs.lemmas.Bool.{lt-leb}
use Rattle.rules.specs.Numbers as Numbers
use Rattle.floats.specs.Ticks.{ticks}
use Rattle.chart.specs.Layout.{chart_size_in, note_size_in, version_number, zero_unit, most_in_chart}
use Rattle.chart.specs.declared.Version.{Version}
use Rattle.chart.specs.declared.Version.TheVariants.{One, Two}
use Rattle.chart.specs.Bytes.{Bytes}
use Rattle.chart.specs.declared.Note.{Note}
use Rattle.chart.specs.Tests.{every, passes, fails, both}
use Rattle.chart.specs.Time.{time, is_time, latest}
use Rattle.chart.specs.Order.{rank}
use Rattle.chart.specs.Chart.{Score, head_of, version_of, note_by, refused, accepted, reading, reading_of, columns_of, count_of, decode, draws_of, head_tests, lasts, note_in, note_of, notes_of, note_tests, ok_chart, ok_head, ok_note, ok_notes, ok_row, ok_rows, score_of, notes_read, notes_in, blank}
use Rattle.floats.specs.Format.{infinity}
use Rattle.chart.specs.Laws.Bytes.{bytes_drop, num_fits}
use Rattle.chart.specs.Laws.Times.{time_fits}
use Rattle.chart.specs.Laws.Notes.{length_notes_of, notes_at}

-- ---- sizes

pub chart_next : (v : Version) (i : ℕ) → chart_size_in v (i + 1) ≡ chart_size_in v i + note_size_in v
chart_next One i = omega arith
chart_next Two i = omega arith

pub chart_room : (v : Version) (i count : ℕ) → i < count → chart_size_in v i + note_size_in v ≤ chart_size_in v count
chart_room One i count h = omega arith
chart_room Two i count h = omega arith

pub chart_none : (v : Version) → chart_size_in v 0 ≡ 8
chart_none One = refl
chart_none Two = refl

-- ---- one test after another

-- the times of a note that may stand in a chart
pub note_fits : (c l : ℕ) (n : Note) → ok_note c l n ≡ true → (n.start < infinity) × (n.duration < infinity)
unfolding ok_note note_tests
note_fits c l n h = (time_fits n.start (passes (note_tests c l n) h 1), time_fits n.duration (passes (note_tests c l n) h 2))

-- a note that fails one test may not stand there, and the last test decides where the others pass
pub note_refused : (c l : ℕ) (n : Note) (i : ℕ) → get_or (note_tests c l n) i true ≡ false → false ≡ ok_note c l n
unfolding ok_note
note_refused c l n i h = sym (fails (note_tests c l n) i h)

pub note_decided : (c l : ℕ) (n : Note) → ltb n.column c ≡ true → is_time (time n.start) ≡ true → is_time (time n.duration) ≡ true → leb l (rank n) ≡ true
    → lasts n.hold n.duration ≡ true → leb (ticks (time n.start) + ticks (time n.duration)) latest ≡ ok_note c l n
unfolding ok_note note_tests every
note_decided c l n t0 t1 t2 t3 t4 = rw (t0, t1, t2, t3, t4, and-true (leb (ticks (time n.start) + ticks (time n.duration)) latest))

-- the rank of a chart's first note may be any
pub first_rank : (n : Note) → leb 0 (rank n) ≡ true
first_rank n = le-leb 0 (rank n) zero-le

-- the same of the header
pub head_refused : (s : List ℕ) (i : ℕ) → get_or (head_tests s) i true ≡ false → false ≡ ok_head s
unfolding ok_head
head_refused s i h = sym (fails (head_tests s) i h)

pub head_decided : (s : List ℕ) → 8 ≤ length s → get_or s 0 0 / 16 ≡ version_number (version_of s) → 1 ≤ columns_of s → columns_of s ≤ 9 → eqb (length s) (chart_size_in (version_of s) (count_of s)) ≡ ok_head s
unfolding ok_head head_tests every
head_decided s t0 t1 t2 t3 =
    rw (le-leb 8 (length s) t0, eq-eqb (get_or s 0 0 / 16) (version_number (version_of s)) t1, le-leb 1 (columns_of s) t2, le-leb (columns_of s) 9 t3, and-true (eqb (length s) (chart_size_in (version_of s) (count_of s))))

pub head_size_law : (s : List ℕ) → ok_head s ≡ true → length s ≡ chart_size_in (version_of s) (count_of s)
unfolding ok_head head_tests
head_size_law s h = eqb-true (length s) (chart_size_in (version_of s) (count_of s)) (passes (head_tests s) h 4)

-- ---- the reader's answers

pub refused_head : (s : List ℕ) → ok_head s ≡ false → refused Numbers.broken_chart ≡ reading s
unfolding reading reading_of decode ok_chart
refused_head s h = rw h

pub refused_rows : (s : List ℕ) → ok_rows (version_of s) (columns_of s) 0 (count_of s) (drop 8 s) ≡ false → refused Numbers.broken_chart ≡ reading s
unfolding reading reading_of decode ok_chart
refused_rows s h = rw (h, and-false (ok_head s))

pub all_pass : (s : List ℕ) → ok_head s ≡ true → ok_rows (version_of s) (columns_of s) 0 (count_of s) (drop 8 s) ≡ true → accepted (version_of s) (columns_of s) (count_of s) (draws_of s) ≡ reading s
unfolding reading reading_of decode ok_chart score_of
all_pass s h k = rw (h, k, length_notes_of (version_of s) (count_of s) (drop 8 s))

pub rows_end : (v : Version) (columns last count i : ℕ) (s : List ℕ) → count ≤ i → ok_rows v columns last (count - i) s ≡ true
unfolding ok_rows
rows_end v columns last count i s h = let e : count - i ≡ 0 = omega arith in rw e

-- ---- the rows from the i-th on

module _ (v : Version) (columns last count i : ℕ) (s : List ℕ) (more : i < count) where
  from_row : ok_rows v columns last (count - i) (drop (chart_size_in v i) s)
      ≡ ok_row v columns last (drop (chart_size_in v i) s) && ok_rows v columns (rank (note_of v (drop (chart_size_in v i) s))) (count - (i + 1)) (drop (chart_size_in v (i + 1)) s)
  unfolding ok_rows
  from_row =
      let one : count - i ≡ suc (count - (i + 1)) = omega arith in
      let next : chart_size_in v (i + 1) ≡ chart_size_in v i + note_size_in v = chart_next v i in
      rw (one, next, ← drop-drop (note_size_in v) (chart_size_in v i) s)

  pub row_next : head_of v (drop (chart_size_in v i) s) % zero_unit v ≡ 0 → ok_note columns last (note_of v (drop (chart_size_in v i) s)) ≡ true
      → ok_rows v columns last (count - i) (drop (chart_size_in v i) s) ≡ ok_rows v columns (rank (note_of v (drop (chart_size_in v i) s))) (count - (i + 1)) (drop (chart_size_in v (i + 1)) s)
  unfolding ok_row
  row_next z ok = from_row ∙ rw (z, ok)

  pub row_zeros : (head_of v (drop (chart_size_in v i) s) % zero_unit v ≡ 0 → ⊥) → ok_rows v columns last (count - i) (drop (chart_size_in v i) s) ≡ false
  unfolding ok_row
  row_zeros z = from_row ∙ rw (ne_eqb (head_of v (drop (chart_size_in v i) s) % zero_unit v) 0 z)

  pub row_note : ok_note columns last (note_of v (drop (chart_size_in v i) s)) ≡ false → ok_rows v columns last (count - i) (drop (chart_size_in v i) s) ≡ false
  unfolding ok_row
  row_note bad = from_row ∙ rw (bad, and-false (eqb (head_of v (drop (chart_size_in v i) s) % zero_unit v) 0))

-- ---- what an accepted chart has

pub read_score : (s : List ℕ) (c : Score) → decode s ≡ some c → (ok_chart s ≡ true) × (score_of s ≡ c)
unfolding decode
read_score s c e = by_test (ok_chart s) refl
  where
    by_test : (t : Bool) → ok_chart s ≡ t → (ok_chart s ≡ true) × (score_of s ≡ c)
    by_test true ok = (ok, some-injective (score_of s) c (rw ok at e))
    by_test false bad = absurd (let z : ◌≡◌ {A = Option Score} none (some c) = rw bad at e in let y : ◌≡◌ {A = ℕ} 0 1 = cc in omega arith)

rows_notes : (v : Version) (c l k : ℕ) (s : List ℕ) → ok_rows v c l k s ≡ true → ok_notes c l (notes_of v k s) ≡ true
unfolding ok_rows ok_row ok_notes notes_of
rows_notes v c l zero s ok = refl
rows_notes v c l (suc k) s ok =
    let here = both (ok_row v c l s) (ok_rows v c (rank (note_of v s)) k (drop (note_size_in v) s)) ok in
    let row = both (eqb (head_of v s % zero_unit v) 0) (ok_note c l (note_of v s)) here.0 in
    rw row.1 (rows_notes v c (rank (note_of v s)) k (drop (note_size_in v) s) here.1)

-- its notes keep the rule
pub notes_ok : (s : List ℕ) (c : Score) → decode s ≡ some c → ok_notes c.columns 0 c.notes ≡ true
unfolding ok_chart score_of
notes_ok s c e =
    let k = read_score s c e in
    rw (← k.1) (rows_notes (version_of s) (columns_of s) 0 (count_of s) (drop 8 s) (both (ok_head s) (ok_rows (version_of s) (columns_of s) 0 (count_of s) (drop 8 s)) k.0).1)

-- and each is found at its index
pub note_read : (s : List ℕ) (c : Score) → decode s ≡ some c → (i : ℕ) (d : Note) → i < length c.notes → note_in s i ≡ some (get_or c.notes i d)
unfolding note_by ok_chart score_of
note_read s c e i d l =
    let k = read_score s c e in
    let notes : notes_of (version_of s) (count_of s) (drop 8 s) ≡ c.notes = ap (λ (t : Score). t.notes) k.1 in
    let below : i < count_of s = omega (arith, ap (λ (t : List Note). length t) notes, length_notes_of (version_of s) (count_of s) (drop 8 s)) in
    let size = head_size_law s (both (ok_head s) (ok_rows (version_of s) (columns_of s) 0 (count_of s) (drop 8 s)) k.0).0 in
    let v : Version = version_of s in
    let room : chart_size_in v i + note_size_in v ≤ length s = rw size (chart_room v i (count_of s) below) in
    rw (le-leb (chart_size_in v i + note_size_in v) (length s) room, ← notes, notes_at v (count_of s) (drop 8 s) i d below, drop-drop (note_size_in v * i) 8 s)

-- a chart has as many bytes as its notes take
pub read_size : (s : List ℕ) (c : Score) → decode s ≡ some c → length s ≡ chart_size_in c.version (length c.notes)
unfolding ok_chart score_of
read_size s c e =
    let k = read_score s c e in
    let size = head_size_law s (both (ok_head s) (ok_rows (version_of s) (columns_of s) 0 (count_of s) (drop 8 s)) k.0).0 in
    rw (← k.1, length_notes_of (version_of s) (count_of s) (drop 8 s)) size

-- so its notes are within its bytes; a note of version 1 is the shorter
pub notes_room : (s : List ℕ) (c : Score) → decode s ≡ some c → chart_size_in One (length c.notes) ≤ length s
notes_room s c e = rw (read_size s c e) (least c.version (length c.notes))
  where
    least : (v : Version) (n : ℕ) → chart_size_in One n ≤ chart_size_in v n
    least One n = omega arith
    least Two n = omega arith

-- of fewer bytes than a header none is found
pub note_short : (s : List ℕ) (i : ℕ) → length s < 8 → none ≡ note_in s i
unfolding note_by
note_short s i h = rw (lt-leb (chart_size_in (version_of s) i + note_size_in (version_of s)) (length s) (past (version_of s)))
  where
    past : (v : Version) → length s < chart_size_in v i + note_size_in v
    past One = omega arith
    past Two = omega arith

-- the times of each of its notes
pub notes_times : (c l : ℕ) (ns : List Note) → ok_notes c l ns ≡ true → (i : ℕ) (d : Note) → i < length ns → ((get_or ns i d).start < infinity) × ((get_or ns i d).duration < infinity)
unfolding ok_notes
notes_times c l [] ok i d h = absurd (omega arith)
notes_times c l (n ∷ ns) ok zero d h = note_fits c l n (both (ok_note c l n) (ok_notes c (rank n) ns) ok).0
notes_times c l (n ∷ ns) ok (suc i) d h = notes_times c (rank n) ns (both (ok_note c l n) (ok_notes c (rank n) ns) ok).1 i d (omega arith)

-- the reader's numbers are those of the chart
pub accepted_score : (o : Option Score) (v : Version) (columns notes draws : ℕ) → accepted v columns notes draws ≡ reading_of o
    → (c : Score) × ((o ≡ some c) × ((c.columns ≡ columns) × (length c.notes ≡ notes)))
unfolding reading_of
accepted_score none v columns notes draws e = absurd (let y : ◌≡◌ {A = ℕ} 0 1 = cc in omega arith)
accepted_score (some c) v columns notes draws e = (c, (refl, (cc, cc)))

pub refused_none : (o : Option Score) (n : ℕ) → refused n ≡ reading_of o → o ≡ none
unfolding reading_of
refused_none none n e = refl
refused_none (some c) n e = absurd (let y : ◌≡◌ {A = ℕ} 0 1 = cc in omega arith)

-- the reader has one refusal
pub refused_broken : (o : Option Score) (n : ℕ) → refused n ≡ reading_of o → n ≡ Numbers.broken_chart
unfolding reading_of
refused_broken none n e = cc
refused_broken (some c) n e = absurd (let y : ◌≡◌ {A = ℕ} 0 1 = cc in omega arith)

-- ---- a note of a place

module _ (s : List ℕ) (i : ℕ) where
  known : (o : Option Score) → decode s ≡ o → i < length (notes_read o)
      → (note_in s i ≡ some (get_or (notes_read o) i blank)) × (((get_or (notes_read o) i blank).start < infinity) × ((get_or (notes_read o) i blank).duration < infinity))
  unfolding notes_read
  known none e l = absurd (omega arith)
  known (some c) e l = (note_read s c e i blank l, notes_times c.columns 0 c.notes (notes_ok s c e) i blank l)

  pub note_known : i < length (notes_in s) → (note_in s i ≡ some (get_or (notes_in s) i blank))
      × (((get_or (notes_in s) i blank).start < infinity) × ((get_or (notes_in s) i blank).duration < infinity))
  note_known l = known (decode s) refl l

-- ---- bounds of a chart that was read

pub columns_few : (s : List ℕ) (c : Score) → decode s ≡ some c → c.columns ≤ 9
unfolding ok_chart ok_head head_tests score_of
columns_few s c e =
    let k = read_score s c e in
    let head = (both (ok_head s) (ok_rows (version_of s) (columns_of s) 0 (count_of s) (drop 8 s)) k.0).0 in
    rw (← k.1) (leb-true (columns_of s) 9 (passes (head_tests s) head 3))

pub notes_few : (s : List ℕ) (c : Score) → Bytes s → decode s ≡ some c → length c.notes ≤ most_in_chart
unfolding count_of score_of
notes_few s c b e =
    rw (← (read_score s c e).1, length_notes_of (version_of s) (count_of s) (drop 8 s)) (omega (arith, num_fits 3 (drop 1 s) (bytes_drop 1 s b)))

-- each note may stand after some rank
note_stands : (c l : ℕ) (ns : List Note) → ok_notes c l ns ≡ true → (i : ℕ) (d : Note) → i < length ns → (last : ℕ) × (ok_note c last (get_or ns i d) ≡ true)
unfolding ok_notes
note_stands c l [] ok i d h = absurd (omega arith)
note_stands c l (n ∷ ns) ok zero d h = (l, (both (ok_note c l n) (ok_notes c (rank n) ns) ok).0)
note_stands c l (n ∷ ns) ok (suc i) d h = note_stands c (rank n) ns (both (ok_note c l n) (ok_notes c (rank n) ns) ok).1 i d (omega arith)

le_first : (a b n : ℕ) → a + b ≤ n → a ≤ n
le_first a b n h = omega arith

-- a note's column is on the deck, and its start is no later than the latest end
pub note_bounds : (s : List ℕ) (c : Score) → decode s ≡ some c → (i : ℕ) → i < length c.notes
    → ((get_or c.notes i blank).column < c.columns) × (ticks (time (get_or c.notes i blank).start) ≤ latest)
unfolding ok_note note_tests
note_bounds s c e i h =
    let n : Note = get_or c.notes i blank in
    let ok = note_stands c.columns 0 c.notes (notes_ok s c e) i blank h in
    let tests = note_tests c.columns ok.0 n in
    (ltb-true n.column c.columns (passes tests ok.1 0), le_first (ticks (time n.start)) (ticks (time n.duration)) latest (leb-true _ latest (passes tests ok.1 5)))
