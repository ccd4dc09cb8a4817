-- `chart_lookup::covering::write_covering` meets its contract. The invariant: the places written, and those of the holds from the i-th note on, are all (`Wrote`). The measure is the number of notes left.
-- Assumes nothing.
use mathlib.Core.Path.{sym, ap, ◌∙◌}
use mathlib.Core.Logic.{⊎_elim}
use mathlib.Core.List.{List}
use Prim.Native.Nat.{ℕ, ◌≤◌, ◌<◌}
use native.Mathlib.Omega.{arith}
use borrow.Author.Rules.{rules}
use lib.ListN.{length}
use Rattle.chart.specs.Laws.Times.{le_or_lt}
use Rattle.chart.specs.Chart.{notes_in}
use Rattle.chart_lookup.specs.Lookup.{Covering, wanted}
use Rattle.chart_lookup.specs.Search.{held_from}
use Rattle.chart_lookup.specs.Laws.Places.{places_yes, places_no, places_none, wrote_none, wrote_next, wrote_size, wrote_full}
use Rattle.chart_lookup.proofs.covering.write_covering.Goals as goal
use Rattle.chart_lookup.proofs.covering.write_covering.Goals.{then-is_covering, else-is_covering}
use Rattle.chart_lookup.proofs.covering.write_covering.Goals.{In-loop-k}

pub loop-k-init : goal.loop-k-init
loop-k-init c = (c.requires.0.order, wrote_none _ _)

-- places are left, so notes are
more : (c : In-loop-k) → c.loop-k.i < c.args.end
more c =
    let size : List ℕ → ℕ = length in
    ⊎_elim
    (λ (h : c.args.end ≤ c.loop-k.i).
    absurd
    (omega
    (arith, wrote_size _ _ _ _ _ c.loop-k.invariant.1, c.requires.1, c.loop-k-test.true, ap size (places_none (wanted (Covering c.args.at.t)) (notes_in c.args.notes.chart.now) c.loop-k.i (omega (arith, c.requires.0.within, c.loop-k.invariant.0)) (λ j a b. c.requires.0.none_after j (omega arith) b)))))
    (λ (h : c.loop-k.i < c.args.end). h)
    (le_or_lt c.args.end c.loop-k.i)

room : (c : In-loop-k) → c.loop-k.k < length c.loop-k.list
room c = omega (arith, c.loop-k.invariant.1.long, c.requires.2, c.loop-k-test.true)

pub is_covering-requires : goal.is_covering-requires
is_covering-requires c = omega (arith, c.args.notes.counted, c.requires.0.within, more (goal.at.is_covering-requires c).In-loop-k)

pub offset_bounds-list-k : goal.offset_bounds-list-k
offset_bounds-list-k c = let r = room (goal.at.offset_bounds-list-k c).In-loop-k in search rules

pub bounds-list-k : goal.bounds-list-k
bounds-list-k c = room (goal.at.bounds-list-k c).In-loop-k

pub overflow_add-i : goal.overflow_add-i
overflow_add-i c = let m = more (goal.at.overflow_add-i c).In-loop-k in search rules

pub loop-k-smaller : goal.loop-k-smaller
loop-k-smaller c = let m = more (goal.at.loop-k-smaller c).In-loop-k in search rules

pub loop-k-preserved : goal.loop-k-preserved
loop-k-preserved c = let ns = notes_in c.args.notes.chart.now in
    let p = wanted (Covering c.args.at.t) in
    let below : c.loop-k.i < length ns = omega (arith, c.requires.0.within, more (goal.at.loop-k-preserved c).In-loop-k) in
    let fits : length (held_from c.args.at.t c.args.first c.args.notes.chart.now) ≤ length c.args.list.now = omega (arith, c.requires.1, c.requires.2) in (
      omega (arith, more (goal.at.loop-k-preserved c).In-loop-k),
      elim c.if-is_covering.branch [
        | then-is_covering w ↦ rw (w.list-is, w.k-is) (wrote_next _ _ _ _ _ _ fits (rw (places_yes p ns c.loop-k.i below (sym c.is_covering.ensures ∙ w.if-is_covering.true)) at c.loop-k.invariant.1))
        | else-is_covering w ↦ rw (w.list-is, w.k-is) (rw (places_no p ns c.loop-k.i below (sym c.is_covering.ensures ∙ w.if-is_covering.false)) at c.loop-k.invariant.1)
      ],
    )

pub shape_of-list : goal.shape_of-list
shape_of-list c = c.loop-k.invariant.1.long

pub returns : goal.returns
returns c = wrote_full _ _ _ _ _ c.loop-k.invariant.1 (omega (arith, c.requires.1, c.loop-k-test.false))
