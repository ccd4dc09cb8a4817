-- The single-object entry, from what its object's generator and the writing of its notes promise. Assumes nothing.
use mathlib.Core.Path.{◌≡◌, sym, ap, ap₂, ◌∙◌, subst}
use Prim.Native.Nat.{ℕ, ◌-◌, ◌*◌, ◌≤◌}
use mathlib.Core.Bool.{Bool, true, false}
use mathlib.Core.List.{List}
use lib.Dec.{ltb}
use lib.ListN.{length}
use Rattle.model.specs.Limits.{most_notes}
use Rattle.rules.specs.Coded.{code}
use Rattle.rules.specs.Refusal.{number, spent_number}
use Rattle.random.specs.Play.{found, tallied, on}
use Rattle.random.specs.Laws.Allowance.{found_run}
use Rattle.random.specs.declared.Random.{Random}
use Rattle.random.specs.declared.Draws.{Draws}
use Rattle.model.specs.declared.Object.{Object}
use Rattle.mania.specs.declared.Facts.{Facts}
use Rattle.mania.specs.declared.PrevValues.{PrevValues}
use Rattle.mania.specs.Chart.{body, written}
use Rattle.mania.specs.Object.{object}
use Rattle.mania.specs.Single.{Single, made, refusing, entry_refusal, single_object}
use Rattle.mania.proofs.Laws.Singles.{single_full, single_made}
use Rattle.entry.specs.Laws.{checked}
use Rattle.std.specs.Prelude.{Result, Ok, Err, IsErrAnd}
use Rattle.pattern.specs.declared.Made as Lent
use Rattle.pattern.specs.Answers.{made_by}
use Rattle.pattern.specs.Laws.Words.{note_count_law}
use Rattle.object.specs.Notes.{note_at}
use Rattle.object.specs.Contract.{Asks}
use Rattle.single.specs.declared.Converted.{Converted}
use Rattle.single.specs.declared.ObjectRefused.{ObjectRefused}
use Rattle.single.specs.Ends.{single_end, Keeps, full, kept}
use Rattle.chart.specs.Layout.{note_size}

-- values that no check refuses are those that a generator takes
pub asks : (f : Facts) (v : PrevValues) (columns : ℕ) (o : Object) (m n : ℕ) → entry_refusal f v columns o ≡ 0 → most_notes ≤ m → most_notes ≤ n → Asks v columns o m n
asks f v columns o m n e w s =
    let c = checked f v columns o e in
    record {
      low = c.low;
      high = c.high;
      mask = c.mask;
      last = c.last;
      range = c.range;
      words = w;
      spare = s;
    }

-- a rule leaves no more draws than it was lent
pub left_in : (f : Facts) (v : PrevValues) (columns : ℕ) (o : Object) (r : Random) (a : ℕ) (words : List ℕ) (m : Lent.Made) (e : Draws)
    → found (made_by (note_at o) words m) e ≡ on (object f v columns o) (tallied a 0 r) → e.tally.left ≤ a
left_in f v columns o r a words m e says =
    (found_run (λ p. spent_number) number (object f v columns o) (tallied a 0 r) (made_by (note_at o) words m) e (sym says)).1

-- the exit of a `?` is a refusal, and leaves the buffer as it was
pub leaves_with : (notes : List ℕ) (n : ℕ) (lent : Random) (e : ObjectRefused) (x : Result Converted ObjectRefused) → IsErrAnd x (λ y. y ≡ e)
    → (code e.refusal ≡ n) × (e.random ≡ lent) → single_end notes x ≡ refusing n lent notes
unfolding refusing
leaves_with notes n lent e (Ok y) h k = absurd h
leaves_with notes n lent e (Err y) h k =
    ap (λ (z : ObjectRefused). refusing (code z.refusal) z.random notes) h ∙ ap₂ (λ (m : ℕ) (s : Random). refusing m s notes) k.0 k.1

module _ (f : Facts) (v : PrevValues) (columns : ℕ) (o : Object) (r : Random) (a : ℕ) (entry exit words : List ℕ) (m : Lent.Made) (e : Draws)
    (passes : entry_refusal f v columns o ≡ 0) (size : m.pattern.count ≤ length words)
    (says : found (made_by (note_at o) words m) e ≡ on (object f v columns o) (tallied a 0 r)) where
  longer : (b : Bool) → ltb (length entry) (note_size * m.pattern.count) ≡ b → ltb (length entry) (note_size * length (made_by (note_at o) words m).notes) ≡ b
  longer b l = subst (λ (n : ℕ). ltb (length entry) (note_size * n) ≡ b) (sym (note_count_law (note_at o) words m.pattern.count size)) l

  pub ended_single : (x : Result Converted ObjectRefused) → Keeps entry exit words o m r a e x → single_end exit x ≡ single_object f v columns o r a entry
  unfolding refusing
  ended_single x (full l same k) = ap₂ single_end same k ∙ sym (single_full f v columns o r a entry passes (made_by (note_at o) words m) e (sym says) (longer true l))
  ended_single x (kept l same k) =
      ap₂ single_end same k
      ∙ ap {B = Single} (λ (n : ℕ). record { answer = made n m.pattern.mask m.pattern.last m.stair e.random (a - e.tally.left); notes = written (body 0 (made_by (note_at o) words m).notes) entry }) (sym (note_count_law (note_at o) words m.pattern.count size))
      ∙ sym (single_made f v columns o r a entry passes (made_by (note_at o) words m) e (sym says) (longer false l))
