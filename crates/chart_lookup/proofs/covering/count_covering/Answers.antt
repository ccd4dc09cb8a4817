-- `chart_lookup::covering::count_covering` meets its contract. The invariant: those found, and those among the notes from the i-th on, are all.
-- Assumes nothing.
use mathlib.Core.Path.{◌≡◌, sym, ap, ◌∙◌}
use mathlib.Core.List.{List}
use Prim.Native.Nat.{ℕ, ◌<◌}
use native.Mathlib.Nat.{zero-add}
use native.Mathlib.Omega.{arith}
use borrow.Author.Rules.{rules}
use lib.ListN.{length}
use Rattle.chart.specs.Chart.{notes_in}
use Rattle.chart_lookup.specs.Lookup.{Covering, wanted}
use Rattle.chart_lookup.specs.Laws.Places.{places_yes, places_no, places_none}
use Rattle.chart_lookup.proofs.covering.count_covering.Goals as goal
use Rattle.chart_lookup.proofs.covering.count_covering.Goals.{then-is_covering, else-is_covering}

pub loop-i-init : goal.loop-i-init
loop-i-init c = (search rules, zero-add _)

pub is_covering-requires : goal.is_covering-requires
is_covering-requires c = omega (arith, c.args.notes.counted, c.requires.within, c.loop-i-test.true)

pub loop-i-preserved : goal.loop-i-preserved
loop-i-preserved c = let ns = notes_in c.args.notes.chart.now in
    let p = wanted (Covering c.args.at.t) in
    let more : c.loop-i.i < length ns = omega (arith, c.requires.within, c.loop-i-test.true) in
    let size : List ℕ → ℕ = length in
    elim c.if-is_covering.branch [
      | then-is_covering w ↦
          let next = ap size (places_yes p ns c.loop-i.i more (sym c.is_covering.ensures ∙ w.if-is_covering.true)) in
          (omega (arith, c.loop-i.invariant.0), omega (arith, next, c.loop-i.invariant.1))
      | else-is_covering w ↦
          let next = ap size (places_no p ns c.loop-i.i more (sym c.is_covering.ensures ∙ w.if-is_covering.false)) in
          (omega (arith, c.loop-i.invariant.0), omega (arith, next, c.loop-i.invariant.1))
    ]

pub returns : goal.returns
returns c = let ns = notes_in c.args.notes.chart.now in
    let size : List ℕ → ℕ = length in
    let at_end : c.loop-i.i ≡ c.args.end = omega (arith, c.requires.order, c.loop-i.auto.i, c.loop-i-test.false) in
    omega (arith, c.loop-i.invariant.1, ap size (places_none (wanted (Covering c.args.at.t)) ns c.loop-i.i (omega (arith, c.requires.within)) (λ j h k. c.requires.none_after j (omega arith) k)))
