-- The most notes that one object can make: 602, two in each of 301 rows. Assumes nothing.
use Rattle.std.specs.Prelude.{◌≡◌, ℕ, ◌*◌, ◌≤◌, List, length}
use Rattle.model.specs.Limits.{most_notes}
use Rattle.rules.specs.Numbers as Numbers
use Rattle.rules.specs.Rule.{Outcome, ended, refused, spent, run}
use Rattle.rules.specs.Refusal.{Refusal}
use Rattle.random.specs.Generator.{values}
use Rattle.random.specs.declared.Random.{Random}
use Rattle.model.specs.declared.Object.{Object}
use Rattle.mania.specs.declared.Facts.{Facts}
use Rattle.mania.specs.declared.PrevValues.{PrevValues}
use Rattle.mania.specs.Made.{Made}
use Rattle.mania.specs.Object as Rule
use Rattle.mania.specs.Range.{FewRepeats}
use Rattle.mania.specs.Single.{refusal, entry_refusal, single_object}
use Rattle.chart.specs.Layout.{note_size}

-- how many notes an object made, 0 where it was refused or a draw was missing
abbrev pub notes_in : Outcome (Unit {0}) Refusal Made → ℕ
notes_in (ended made n) = length made.notes
notes_in (refused r n) = 0
notes_in (spent p n) = 0

-- an object that the single-object entry accepts, and a state from which it makes `notes` notes
pub record MadeBy (notes : ℕ) : Type 0 where
  pub facts : Facts
  pub previous : PrevValues
  pub columns : ℕ
  pub object : Object
  pub state : Random
  pub allowance : ℕ
  pub taken : entry_refusal facts previous columns object ≡ 0
  pub makes : notes_in (run (Rule.object facts previous columns object) (values allowance state)) ≡ notes

pub record MostNotes : Type 0 where
  pub number : most_notes ≡ 602
  -- No object makes more, from any state and under any allowance,
  pub most : (f : Facts) (v : PrevValues) (columns : ℕ) (o : Object) → 1 ≤ columns → columns ≤ 9 → FewRepeats o.kind
      → (r : Random) (a : ℕ) → notes_in (run (Rule.object f v columns o) (values a r)) ≤ most_notes
  -- and one makes as many.
  pub reached : MadeBy most_notes
  -- So a buffer for as many is never too short for the single-object entry.
  pub enough : (f : Facts) (v : PrevValues) (columns : ℕ) (o : Object) → 1 ≤ columns → columns ≤ 9 → FewRepeats o.kind
      → (r s : Random) (a : ℕ) (buffer : List ℕ) → note_size * most_notes ≤ length buffer
      → (single_object f v columns o r a buffer).answer ≡ refusal Numbers.chart_too_short s → ⊥
