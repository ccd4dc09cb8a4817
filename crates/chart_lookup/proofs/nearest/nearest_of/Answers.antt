-- `chart_lookup::nearest::nearest_of` meets its contract: of the next note of the column and the last one before it, a law for each answer.
-- Assumes nothing.
use mathlib.Core.Path.{◌≡◌, refl, sym, ap, ◌∙◌}
use borrow.Author.Rules.{rules}
use Rattle.std.specs.Prelude.{None}
use Prim.Native.Nat.{ℕ, ◌<◌}
use native.Mathlib.Nat.{lt_irrefl}
use native.Mathlib.Omega.{arith}
use lib.ListN.{length, get_or}
use borrow.Author.Tests.{ltb-true, ltb-false}
use Rattle.exact_times.specs.Instants.{instant, FirstAt}
use Rattle.chart.specs.Chart.{notes_in, blank}
use Rattle.chart.specs.Laws.Reader.{note_known}
use Rattle.chart_lookup.specs.Nearest.{away}
use Rattle.chart_lookup.specs.Search.{past}
use Rattle.chart_lookup.proofs.Laws.Nearest.{is_nearest, next_nearer, last_nearer, settled, without_last}
use Rattle.chart_lookup.proofs.nearest.nearest_of.Goals as goal
use Rattle.chart_lookup.proofs.nearest.nearest_of.Goals.{in_default-via-in-None-1, in_default-via-in-Some-next_of+else-nearer}

pub last_of-requires : goal.last_of-requires
last_of-requires c = omega (arith, c.args.notes.counted, c.starting_before-end.ensures.within)

pub returns-in_default : goal.returns-in_default
unfolding FirstAt
returns-in_default c = without_last c.args.notes.chart.now _ _ _ _ c.first_at.ensures c.starting_before-end.ensures _ c.last_of.ensures (ap past c.in_default.is) _ c.next_of.ensures

pub nearer-requires : goal.nearer-requires
nearer-requires c = let below : c.in-Some.last < length (notes_in c.args.notes.chart.now) = omega (arith, c.starting_before-end.ensures.within, c.in-Some.ensures.within) in
    (rw c.note-start.ensures (note_known _ _ below).1.0, rw c.note.ensures (note_known _ _ c.in-Some-next_of.ensures.0).1.0)

pub returns : goal.returns
unfolding FirstAt away
returns c = let far : ℕ → ℕ = λ j. away (instant c.args.at.t) (get_or (notes_in c.args.notes.chart.now) j blank) in
    let test = rw (c.note.ensures, c.note-start.ensures) at (sym c.nearer.ensures ∙ c.if-nearer.true) in
    sym
    (is_nearest c.args.column (instant c.args.at.t) (notes_in c.args.notes.chart.now) _
    (next_nearer c.args.notes.chart.now _ _ _ _ _ _ c.first_at.ensures c.starting_before-end.ensures c.in-Some-next_of.ensures.1 c.in-Some.ensures _ refl
    c.in-Some-next_of.ensures.0 (ltb-true (far c.in-Some-next_of.next) (far c.in-Some.last) test)))

pub returns-2 : goal.returns-2
unfolding FirstAt away
returns-2 c = let far : ℕ → ℕ = λ j. away (instant c.args.at.t) (get_or (notes_in c.args.notes.chart.now) j blank) in
    let equal = rw c.note-start.ensures at c.starting_before.ensures in
    settled c.args.column (instant c.args.at.t) (notes_in c.args.notes.chart.now) _ _ c.next_of-3.ensures (elim c.in_default.branch [
      | in_default-via-in-None-1 w ↦
          let none : c.next_of-2.result ≡ None = search rules in
          λ k F. last_nearer c.args.notes.chart.now _ _ _ _ _ _ c.first_at.ensures c.starting_before-end.ensures (rw none at c.next_of-2.ensures) c.in-Some.ensures _ refl _ k
          (λ h. absurd (lt_irrefl _ h)) equal F
      | in_default-via-in-Some-next_of+else-nearer w ↦
          λ k F. last_nearer c.args.notes.chart.now _ _ _ _ _ _ c.first_at.ensures c.starting_before-end.ensures w.in-Some-next_of.ensures.1 c.in-Some.ensures _ refl _ k
          (λ h. ltb-false (far w.in-Some-next_of.next) (far c.in-Some.last) (rw (w.note.ensures, c.note-start.ensures) at (sym w.nearer.ensures ∙ w.if-nearer.false))) equal F
    ])
