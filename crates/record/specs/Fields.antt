-- All fields of a record, in record order. `Laws.Refusals`: a record's number is that of its first field that does not pass. Assumes nothing.
use Rattle.std.specs.Prelude.{ℕ, zero, suc, ◌+◌, ◌-◌, ◌*◌, ◌/◌, ◌≤◌, ◌<◌, ◌≡◌, ◌⊎◌, List, [], ◌∷◌, ◌++◌, length, Float}
use Rattle.bits.specs.Field.{bits}
use Rattle.rules.specs.Each.{Each}
use Rattle.rules.specs.Numbers as Numbers
use Rattle.record.specs.declared.section.Section.{Section}
use Rattle.record.specs.declared.section.Section.TheVariants.{Breaks, TimingPoints, DifficultyPoints, EffectPoints}
use Rattle.record.specs.Layout as At
use Rattle.record.specs.Refusal.{Field, f64_at}
use Rattle.record.specs.Header.{counts_of, header_fields}
use Rattle.record.specs.Section.{entry_end, entry_fields, no_time}
use Rattle.record.specs.Object.{start_at, object_end, object_fields, zero_start}
use Rattle.record.specs.Record.{places_of, record_end}

-- the fields of n entries from bit p on
unfoldable pub entries_fields : (ℕ → Float → List Field) → (ℕ → ℕ) → (ℕ → Float) → ℕ → Float → ℕ → List Field
entries_fields entry next key p before zero = []
entries_fields entry next key p before (suc n) = entry p before ++ entries_fields entry next key (next p) (key p) n

unfoldable pub section_fields : Section → List ℕ → ℕ → ℕ → List Field
unfolding entries_fields
section_fields k s p n = entries_fields (entry_fields k s) (entry_end k) (f64_at s) p no_time n

unfoldable pub objects_fields : List ℕ → ℕ → ℕ → List Field
unfolding entries_fields
objects_fields s p n = entries_fields (object_fields s) (object_end s) (start_at s) p zero_start n

-- all fields in record order
unfoldable pub fields_of : List ℕ → List Field
unfolding section_fields objects_fields
fields_of s =
    let n = counts_of s in
    let at = places_of n in
    header_fields s
    ++ (section_fields Breaks s At.breaks n.breaks
    ++ (section_fields TimingPoints s at.timing n.timing
    ++ (section_fields DifficultyPoints s at.difficulty n.difficulty
    ++ (section_fields EffectPoints s at.effect n.effect
    ++ objects_fields s at.objects n.objects))))

-- the field is whole and has no refusal of its own
pub record Passes (s : List ℕ) (f : Field) : Type 0 where
  pub whole : f.place + f.width ≤ 8 * length s
  pub good : f.own ≡ 0

-- The first field of fs that does not pass, with the number n: it is not whole and n says so, or it is whole and n is its own refusal. All before it pass.
pub record First (s : List ℕ) (fs : List Field) (n : ℕ) : Type 0 where
  pub before : List Field
  pub at : Field
  pub after : List Field
  pub place : fs ≡ before ++ (at ∷ after)
  pub passed : Each (Passes s) before
  pub fails : Passes s at → ⊥
  pub cause : ((8 * length s < at.place + at.width) × (n ≡ Numbers.field_not_whole)) ⊎ ((at.place + at.width ≤ 8 * length s) × (at.own ≡ n))

-- zero bits fill the last byte after bit p, and no bytes follow
pub record Fills (s : List ℕ) (p : ℕ) : Type 0 where
  pub zeros : bits s p (8 * ((p + 7) / 8) - p) ≡ 0
  pub ends : length s ≤ (p + 7) / 8

-- no check of the record fails: all fields pass, zero bits fill the last byte, and no bytes follow
pub record AllPass (s : List ℕ) : Type 0 where
  pub fields : Each (Passes s) (fields_of s)
  pub filled : Fills s (record_end s)

-- the first check of the record that fails, in record order, has the number n: that of a field, or 7 where all fields pass and the filling is wrong
abbrev pub FirstFailing : List ℕ → ℕ → Type 0
FirstFailing s n = First s (fields_of s) n ⊎ (Each (Passes s) (fields_of s) × (Fills s (record_end s) → ⊥) × (n ≡ Numbers.filling))
