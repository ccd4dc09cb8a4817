-- What the parts of a lookup find, for their contracts.
-- Assumes nothing.
use Rattle.std.specs.Prelude.{◌≡◌, Bool, false, List, [], ◌∷◌, ℕ, zero, suc, ◌≤◌, ◌<◌, length, get_or, drop, Float, Option, Some, None}
use Rattle.chart.specs.declared.Note.{Note}
use Rattle.chart.specs.Chart.{notes_in, blank}
use Rattle.chart_lookup.specs.Lookup.{Covering, wanted, places}

-- the first k notes are those that start before a bit pattern
pub record Parts (ns : List Note) (pattern k : ℕ) : Type 0 where
  pub within : k ≤ length ns
  pub before : (j : ℕ) → j < k → (get_or ns j blank).start < pattern
  pub after : (j : ℕ) → k ≤ j → j < length ns → pattern ≤ (get_or ns j blank).start

-- no note from a place on passes a test
abbrev pub NoneFrom : (Note → Bool) → List Note → ℕ → Type 0
NoneFrom p ns i = (j : ℕ) → i ≤ j → j < length ns → p (get_or ns j blank) ≡ false

-- notes from one place up to another, after which no note passes a test
pub record Stretch (p : Note → Bool) (ns : List Note) (first end : ℕ) : Type 0 where
  pub order : first ≤ end
  pub within : end ≤ length ns
  pub none_after : NoneFrom p ns end

-- the places of the holds that cover an instant, from the i-th note of a chart on
abbrev pub held_from : Float → ℕ → List ℕ → List ℕ
held_from at i s = places (wanted (Covering at)) i (drop i (notes_in s))

-- consecutive places, k of them from i on
unfoldable pub run : ℕ → ℕ → List ℕ
run i zero = []
run i (suc k) = i ∷ run (suc i) k

-- k is the place of the first note of a column from the place i on, or the number of notes where there is none
pub record Next (ns : List Note) (column i k : ℕ) : Type 0 where
  pub late : i ≤ k
  pub within : k ≤ length ns
  pub none_before : (j : ℕ) → i ≤ j → j < k → (get_or ns j blank).column ≡ column → ⊥
  pub there : k < length ns → (get_or ns k blank).column ≡ column

-- the same, where the code gives no number for none
abbrev pub Following : List Note → ℕ → ℕ → Option ℕ → Type 0
Following ns column i None = Next ns column i (length ns)
Following ns column i (Some k) = (k < length ns) × Next ns column i k

-- one more than a place, 0 for none
abbrev pub past : Option ℕ → ℕ
past None = 0
past (Some i) = suc i

-- k is one more than the place of the last note of a column before the place i, or 0 where there is none
pub record Last (ns : List Note) (column i k : ℕ) : Type 0 where
  pub within : k ≤ i
  pub none_after : (j : ℕ) → k ≤ j → j < i → (get_or ns j blank).column ≡ column → ⊥
  pub there : (j : ℕ) → k ≡ suc j → (get_or ns j blank).column ≡ column
