-- `slider_notes::add_beside` meets its contract. The invariant is `At`.
-- Assumes nothing.
use mathlib.Core.Path.{◌≡◌, sym, ap, ◌∙◌}
use Prim.Native.Nat.{◌<◌}
use native.Mathlib.Omega.{arith}
use Rattle.random.specs.Play.{found, on}
use Rattle.random.specs.Answers.{number}
use Rattle.pattern.specs.Laws.Searches.{find_on_deck}
use Rattle.slider_notes.proofs.Words.{less_one, turn}
use Rattle.slider_notes.proofs.Loops.{start, seek, beside_more, beside_stop, beside_end}
use Rattle.slider_notes.proofs.Ends.{stops_at}
use Rattle.slider_notes.proofs.add_beside.Goals as goal
use Rattle.slider_notes.proofs.add_beside.Goals.{In_ok-e}

pub loop-init : goal.loop-init
loop-init c = start _ _ _ _ _ _ _ _ (omega arith) c.requires.0.2

-- what the search gave, in the rule's words
got : (c : In_ok-e)
    → let a = c.args in let l = c.loop in
    on (seek a.g l.c c.with_column-taken.result) l.rest ≡ found c.in_ok-e.e c.in_ok-e.next
got c = sym c.find_column.ensures ∙ ap number c.in_ok-e.was

deck : (c : In_ok-e) → c.in_ok-e.e < c.args.g.columns
deck c = find_on_deck _ c.requires.0.0 _ _ _ _ _ c.loop.invariant.deck (got c)

pub put_slider_note-p-requires : goal.put_slider_note-p-requires
put_slider_note-p-requires c = omega (arith, deck (goal.at.put_slider_note-p-requires c).In_ok-e, c.requires)

pub with_column-row-requires : goal.with_column-row-requires
with_column-row-requires c = omega (arith, deck (goal.at.with_column-row-requires c).In_ok-e, c.requires)

pub loop-preserved : goal.loop-preserved
loop-preserved c = record {
  size = c.put_slider_note-p.auto.words ∙ c.loop.invariant.size;
  room = less_one _ _ _ _ _ c.put_slider_note-p.ensures.more (turn _ _ c.loop-test.true) c.loop.invariant.room;
  deck = deck (goal.at.loop-preserved c).In_ok-e;
  goes = sym (beside_more c.args.g _ _ _ _ _ _ _ _ _ (turn _ _ c.loop-test.true) _ _ c.with_column-taken.ensures _ (got (goal.at.loop-preserved c).In_ok-e) (deck (goal.at.loop-preserved c).In_ok-e) _ c.with_column-row.ensures _ _ c.put_slider_note-p.ensures) ∙ c.loop.invariant.goes;
}

pub returns-in_err-e : goal.returns-in_err-e
returns-in_err-e c =
    stops_at _ _ _ c.from_residual.ensures.1 _ _ _ c.requires.0.0
    (sym c.loop.invariant.goes ∙ beside_stop c.args.g _ _ _ _ _ _ _ _ _ (turn _ _ c.loop-test.true) _ _ c.with_column-taken.ensures _ (sym c.find_column.ensures ∙ ap number c.in_err-e.was))

pub returns : goal.returns
returns c = record {
  says = sym (beside_end _ _ _ _ _ _ _ _ _ (omega (arith, c.loop-test.false))) ∙ c.loop.invariant.goes;
  few = omega arith;
  deck = c.loop.invariant.deck;
}
