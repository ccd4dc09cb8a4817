-- The notes of a chart that was read, and the reader's answer.
-- Assumes nothing.
use Rattle.std.specs.Prelude.{◌≡◌, refl, true, Float, length, get_or}
use mathlib.Core.List.{List, [], ◌∷◌}
use Rattle.std.proofs.Math.Option.{Option, none, some}
use Prim.Native.Nat.{ℕ, zero, suc, ◌*◌, ◌≤◌, ◌<◌}
use Rattle.std.proofs.Math.Nat.{le_refl}
use Rattle.std.proofs.Common.{arith}
use borrow.Author.Tests.{leb-true, ltb-true}
use Rattle.chart.specs.Layout.{column_values}
use Rattle.chart.specs.Order.{rank}
use Rattle.chart.specs.declared.Version.{Version}
use Rattle.chart.specs.declared.Note.{Note}
use Rattle.chart.specs.Tests.{both, passes}
use Rattle.chart.specs.Chart.{Score, accepted, reading_of, decode, ok_note, ok_notes, note_tests, notes_read, notes_in, blank}
use Rattle.chart.specs.Laws.Reader.{columns_few, notes_ok}
use Rattle.chart_lookup.specs.Lookup.{Wanted, listed, looked}
use Rattle.chart_lookup.specs.Nearest.{seeking, sought_in}

-- ---- starts never fall

module _ (c : ℕ) (few : c < column_values) where
  -- ranks do not fall, and those of a later start are higher
  rank_late : (l : ℕ) (n : Note) → ok_note c l n ≡ true → (l ≤ rank n) × (n.column < column_values)
  unfolding ok_note note_tests
  rank_late l n ok =
      let p = passes (note_tests c l n) ok in
      let on : n.column < c = ltb-true n.column c (p 0) in
      (leb-true l (rank n) (p 3), omega arith)

  -- every note from one on starts at `start` at least, where the rank before them is of such a start
  starts_late : (start l : ℕ) (ns : List Note) → start * column_values ≤ l → ok_notes c l ns ≡ true → (j : ℕ) → j < length ns → start ≤ (get_or ns j blank).start
  unfolding ok_notes rank
  starts_late start l [] k ok j h = absurd (omega arith)
  starts_late start l (n ∷ ns) k ok zero h =
      let late = rank_late l n (both (ok_note c l n) (ok_notes c (rank n) ns) ok).0 in
      omega (arith, late.0, late.1)
  starts_late start l (n ∷ ns) k ok (suc j) h =
      let b = both (ok_note c l n) (ok_notes c (rank n) ns) ok in
      starts_late start (rank n) ns (omega (arith, (rank_late l n b.0).0)) b.1 j (omega arith)

  pub starts_rise : (l : ℕ) (ns : List Note) → ok_notes c l ns ≡ true → (i j : ℕ) → i ≤ j → j < length ns → (get_or ns i blank).start ≤ (get_or ns j blank).start
  unfolding ok_notes rank
  starts_rise l [] ok i j h k = absurd (omega arith)
  starts_rise l (n ∷ ns) ok zero zero h k = le_refl n.start
  starts_rise l (n ∷ ns) ok zero (suc j) h k =
      starts_late n.start (rank n) ns (omega arith) (both (ok_note c l n) (ok_notes c (rank n) ns) ok).1 j (omega arith)
  starts_rise l (n ∷ ns) ok (suc i) zero h k = absurd (omega arith)
  starts_rise l (n ∷ ns) ok (suc i) (suc j) h k = starts_rise (rank n) ns (both (ok_note c l n) (ok_notes c (rank n) ns) ok).1 i j (omega arith) (omega arith)

module _ (s : List ℕ) where
  rise_in : (o : Option Score) → decode s ≡ o → (i j : ℕ) → i ≤ j → j < length (notes_read o) → (get_or (notes_read o) i blank).start ≤ (get_or (notes_read o) j blank).start
  unfolding notes_read
  rise_in none e i j h k = absurd (omega arith)
  rise_in (some c) e i j h k = starts_rise c.columns (omega (arith, columns_few s c e)) 0 c.notes (notes_ok s c e) i j h k

  pub rise : (i j : ℕ) → i ≤ j → j < length (notes_in s) → (get_or (notes_in s) i blank).start ≤ (get_or (notes_in s) j blank).start
  rise i j h k = rise_in (decode s) refl i j h k

-- ---- what the reader's answer says

pub read_notes_law : (o : Option Score) (v : Version) (columns notes draws : ℕ) → accepted v columns notes draws ≡ reading_of o
    → (notes ≡ length (notes_read o)) × ((w : Wanted) (list : List ℕ) → listed w (notes_read o) list ≡ looked o w list)
unfolding reading_of notes_read looked
read_notes_law none v columns notes draws e = absurd (let y : ◌≡◌ {A = ℕ} 0 1 = cc in omega arith)
read_notes_law (some c) v columns notes draws e = (cc, λ w list. refl)

pub read_columns_law : (o : Option Score) (v : Version) (columns notes draws : ℕ) → accepted v columns notes draws ≡ reading_of o
    → (notes ≡ length (notes_read o)) × ((column : ℕ) (t : Float) → seeking columns (notes_read o) column t ≡ sought_in o column t)
unfolding reading_of notes_read sought_in
read_columns_law none v columns notes draws e = absurd (let y : ◌≡◌ {A = ℕ} 0 1 = cc in omega arith)
read_columns_law (some c) v columns notes draws e = (cc, λ column t. let same : columns ≡ c.columns = cc in rw same)
