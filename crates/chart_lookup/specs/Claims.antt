-- What the lookups give, in document 02's words, of any bytes s.
-- Assumes nothing.
use Rattle.std.specs.Prelude.{◌≡◌, true, false, ◌⊎◌, List, [], ◌∷◌, ℕ, suc, ◌≤◌, ◌<◌, ℤ, length, get_or, Float}
use Rattle.std.proofs.Math.Option.{some}
use Rattle.std.specs.Float.Ieee.Scale.{finite}
use Rattle.floats.specs.Ticks.{ticks}
use Rattle.chart.specs.declared.Note.{Note}
use Rattle.chart.specs.Time.{time}
use Rattle.chart.specs.Chart.{Score, decode, blank}
use Rattle.exact_times.specs.Instants.{instant}
use Rattle.chart_lookup.specs.Lookup.{Wanted, refused, nothing, found, times_ok, wanted, given, listing}
use Rattle.chart_lookup.specs.Nearest.{away, sought}

-- a list that rises, from at least l on
unfoldable pub Rising : ℕ → List ℕ → Type 0
Rising l [] = Unit {0}
Rising l (p ∷ ps) = (l ≤ p) × Rising (suc p) ps

unfoldable pub In : ℕ → List ℕ → Type 0
In j [] = ⊥
In j (p ∷ ps) = (j ≡ p) ⊎ In j ps

-- the places of the notes asked for: they rise, and they are those of all such notes and of no other
pub record Lists (w : Wanted) (ns : List Note) (ps : List ℕ) : Type 0 where
  pub rising : Rising 0 ps
  pub only : (j : ℕ) → In j ps → (j < length ns) × (wanted w (get_or ns j blank) ≡ true)
  pub all : (j : ℕ) → j < length ns → wanted w (get_or ns j blank) ≡ true → In j ps

-- the place j of the note of a column that is nearest to an instant
pub record NearestIn (ns : List Note) (column : ℕ) (t : ℤ) (j : ℕ) : Type 0 where
  pub there : j < length ns
  pub its_column : (get_or ns j blank).column ≡ column
  -- no note of the column is nearer
  pub least : (q : ℕ) → q < length ns → (get_or ns q blank).column ≡ column → away t (get_or ns j blank) ≤ away t (get_or ns q blank)
  -- none that is as near starts earlier
  pub earlier : (q : ℕ) → q < length ns → (get_or ns q blank).column ≡ column → away t (get_or ns j blank) ≡ away t (get_or ns q blank)
      → ticks (time (get_or ns j blank).start) ≤ ticks (time (get_or ns q blank).start)
  -- of those with its start it is the first
  pub first : (q : ℕ) → (get_or ns q blank).column ≡ column → (get_or ns j blank).start ≡ (get_or ns q blank).start → j ≤ q

pub record Claims (s : List ℕ) : Type 0 where
  -- a refusal leaves the list untouched
  pub untouched : (w : Wanted) (list : List ℕ) (n : ℕ) → (listing s w list).0 ≡ refused n → (listing s w list).1 ≡ list
  -- of a chart, and times that are not refused
  pub listed : (c : Score) → decode s ≡ some c → (w : Wanted) → times_ok w ≡ true → (list : List ℕ)
      → (ps : List ℕ) × (Lists w c.notes ps × (listing s w list ≡ given ps list))
  -- nothing is found exactly where no note is asked for
  pub list_nothing : (c : Score) → decode s ≡ some c → (w : Wanted) → times_ok w ≡ true → (list : List ℕ) → (listing s w list).0 ≡ nothing
      → (k : ℕ) → k < length c.notes → wanted w (get_or c.notes k blank) ≡ false
  pub nothing_listed : (c : Score) → decode s ≡ some c → (w : Wanted) → times_ok w ≡ true → (list : List ℕ)
      → ((k : ℕ) → k < length c.notes → wanted w (get_or c.notes k blank) ≡ false) → listing s w list ≡ (nothing, list)
  -- of a chart, a finite time and a column on the deck
  pub nearest : (c : Score) → decode s ≡ some c → (column : ℕ) → column < c.columns → (t : Float) → finite t ≡ true → (j : ℕ)
      → sought s column t ≡ found j → NearestIn c.notes column (instant t) j
  -- nothing is found exactly where the column has no note
  pub nearest_nothing : (c : Score) → decode s ≡ some c → (column : ℕ) → column < c.columns → (t : Float) → finite t ≡ true → sought s column t ≡ nothing
      → (q : ℕ) → q < length c.notes → (get_or c.notes q blank).column ≡ column → ⊥
  pub nothing_nearest : (c : Score) → decode s ≡ some c → (column : ℕ) → column < c.columns → (t : Float) → finite t ≡ true
      → ((q : ℕ) → q < length c.notes → (get_or c.notes q blank).column ≡ column → ⊥) → sought s column t ≡ nothing
