-- The most notes that one object can make, from the bound on what every rule of an object makes (`Counts`) and an object that makes as many. Assumes nothing.
use Rattle.std.specs.Prelude.{if◌then◌else◌, Some, None}
use mathlib.Core.Path.{◌≡◌, refl, subst}
use Prim.Native.Nat.{ℕ, ◌*◌, ◌≤◌, ◌<◌}
use native.Mathlib.Omega.{arith}
use mathlib.Core.Bool.{Bool, true, false, not}
use mathlib.Core.List.{List}
use lib.Dec.{eqb, lit≤}
use lib.ListN.{length}
use borrow.Author.Tests.{eqb-true, eqb-false}
use Rattle.model.specs.Limits.{most_repeats, most_notes}
use Rattle.rules.specs.Numbers as Numbers
use Rattle.rules.specs.Rule.{Outcome, ended, refused, spent, run}
use Rattle.rules.specs.Refusal.{Refusal}
use Rattle.random.specs.Generator.{values, seeded}
use Rattle.random.specs.declared.Random.{Random}
use Rattle.model.specs.declared.Object.{Object}
use Rattle.model.specs.declared.Kind.TheVariants.{Slider}
use Rattle.mania.specs.declared.Facts.{Facts}
use Rattle.mania.specs.declared.PrevValues.{PrevValues}
use Rattle.mania.specs.declared.Stair.TheVariants.{Up}
use Rattle.mania.specs.Steps.{single, double}
use Rattle.mania.specs.Made.{Made}
use Rattle.mania.specs.Object.{object}
use Rattle.mania.specs.Range.{FewRepeats}
use Rattle.mania.specs.Single.{refusal, pattern_fits, settings_fit, points_fit, object_fits, entry_refusal, single_object}
use Rattle.mania.specs.SingleClaims.{Condition}
use Rattle.mania.specs.MostNotes.{notes_in, MostNotes}
use Rattle.mania.proofs.Makes.{ran}
use Rattle.mania.proofs.Counts.{kind_few}
use Rattle.mania.proofs.Singles.{claims}
use Rattle.mania.proofs.Computing.{computing}
use Rattle.chart.specs.Layout.{note_size}

most : (f : Facts) (v : PrevValues) (columns : ℕ) (o : Object) → 1 ≤ columns → columns ≤ 9 → FewRepeats o.kind
    → (r : Random) (a : ℕ) → notes_in (run (object f v columns o) (values a r)) ≤ most_notes
unfolding object
most f v columns o some deck few r a = go (run (object f v columns o) (values a r)) refl
  where
    go : (x : Outcome (Unit {0}) Refusal Made) → run (object f v columns o) (values a r) ≡ x → notes_in x ≤ most_notes
    go (ended made n) e = ran _ (object f v columns o) (kind_few columns some deck f v o o.kind few).made r a made n e
    go (refused q n) e = lit≤ tt
    go (spent p n) e = lit≤ tt

-- ---- room at the single-object entry

-- 11 is none of the checks' numbers
not_11 : (f : Facts) (v : PrevValues) (columns : ℕ) (o : Object) → Numbers.chart_too_short ≡ entry_refusal f v columns o → ⊥
unfolding entry_refusal
not_11 f v columns o = go (pattern_fits v columns) (settings_fit f) (points_fit f) (object_fits f v o)
  where
    go : (a b c d : Bool)
        → Numbers.chart_too_short ≡ (if not a then Numbers.columns_or_previous else if not b then Numbers.setting else if not c then Numbers.break_or_point else if not d then Numbers.object else 0)
        → ⊥
    go false b c d e = omega arith
    go true false c d e = omega arith
    go true true false d e = omega arith
    go true true true false e = omega arith
    go true true true true e = omega arith

enough : (f : Facts) (v : PrevValues) (columns : ℕ) (o : Object) → 1 ≤ columns → columns ≤ 9 → FewRepeats o.kind
    → (r s : Random) (a : ℕ) (buffer : List ℕ) → note_size * most_notes ≤ length buffer
    → (single_object f v columns o r a buffer).answer ≡ refusal Numbers.chart_too_short s → ⊥
enough f v columns o some deck few r s a buffer room e = by_check (eqb (entry_refusal f v columns o) 0) refl
  where
    c : Condition f v columns o r buffer a Numbers.chart_too_short
    c = ((claims f v columns o r buffer).refuses a Numbers.chart_too_short s e).condition

    short : (m n : ℕ) → note_size * most_notes ≤ m → m < note_size * n → n ≤ most_notes → ⊥
    short m n h l k = omega arith

    by_check : (b : Bool) → eqb (entry_refusal f v columns o) 0 ≡ b → ⊥
    by_check true h =
        let x = c.short (eqb-true (entry_refusal f v columns o) 0 h) refl in
        short (length buffer) (length x.0.notes) room x.3 (subst (λ (y : Outcome (Unit {0}) Refusal Made). notes_in y ≤ most_notes) x.2 (most f v columns o some deck few r a))
    by_check false h = not_11 f v columns o (c.checked (eqb-false (entry_refusal f v columns o) 0 h))

-- ---- two notes in each of 301 rows: spans of 180 ms, 4 columns, a difficulty above 3

abbrev facts : Facts
facts = record { difficulty = double 7 2; multiplier = double 1 1; beat = double 1000 1; velocity = double 1 1; kiai = false; density = double 0 1 }

abbrev before : PrevValues
before = record { time = double 0 1; position = record { x = single 0 1; y = single 0 1 }; mask = 0; last = 0; stair = Up }

abbrev repeating : Object
repeating = record { position = record { x = single 0 1; y = single 0 1 }; start = double 0 1; sound = 0; kind = Slider most_repeats (Some (double 18 1)) None }

taken : entry_refusal facts before 4 repeating ≡ 0
unfolding computing
taken = refl

makes : notes_in (run (object facts before 4 repeating) (values 400 (seeded 0))) ≡ most_notes
unfolding computing
makes = refl

pub most_notes_law : MostNotes
most_notes_law =
    record {
      number = refl;
      most = most;
      enough = enough;
      reached = record { facts = facts; previous = before; columns = 4; object = repeating; state = seeded 0; allowance = 400; taken = taken; makes = makes };
    }
