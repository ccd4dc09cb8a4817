-- `slider_notes::add_row` meets its contract. The invariant is `At`.
-- Assumes nothing.
use mathlib.Core.Path.{◌≡◌, sym, ap, ◌∙◌}
use native.Mathlib.Omega.{arith}
use Rattle.random.specs.Play.{found, on}
use Rattle.random.specs.Answers.{number}
use Rattle.pattern.specs.Laws.Searches.{find_on_deck}
use Rattle.slider_notes.proofs.Words.{all, ahead, less_one, turn}
use Rattle.slider_notes.proofs.Loops.{start, seek, row_more, row_stop, row_end}
use Rattle.slider_notes.proofs.Ends.{stops}
use Rattle.slider_notes.proofs.add_row.Goals as goal
use Rattle.slider_notes.proofs.add_row.Goals.{In_ok-e}

pub loop-init : goal.loop-init
loop-init c = (rw (all c.args.turns.n) c.args.turns.times, start _ _ _ _ _ _ _ _ (omega arith) c.args.turns.on_deck.2)

-- what the search gave, in the rule's words
got : (c : In_ok-e)
    → let l = c.loop in on (seek c.args.turns.g l.c c.with_column-own.result) l.rest ≡ found c.in_ok-e.e c.in_ok-e.next
got c = sym c.find_column.ensures ∙ ap number c.in_ok-e.was

pub loop-preserved : goal.loop-preserved
loop-preserved c = (
  ahead _ _ _ _ _ (turn _ _ c.loop-test.true) c.loop.invariant.0,
  record {
    size = c.put_slider_note-p.auto.words ∙ c.loop.invariant.1.size;
    room = less_one _ _ _ _ _ c.put_slider_note-p.ensures.more (turn _ _ c.loop-test.true) c.loop.invariant.1.room;
    deck = find_on_deck _ c.args.turns.on_deck.0 _ _ _ _ _ c.loop.invariant.1.deck (got (goal.at.loop-preserved c).In_ok-e);
    goes =
        sym (row_more c.args.turns.g _ _ _ _ _ _ _ (turn _ _ c.loop-test.true) c.loop.invariant.1.deck _ _ c.put_slider_note-p.ensures _ _ c.with_column-own.ensures _ (got (goal.at.loop-preserved c).In_ok-e))
        ∙ c.loop.invariant.1.goes;
  },
)

pub returns-in_err-e : goal.returns-in_err-e
returns-in_err-e c =
    stops _ _ _ c.from_residual.ensures.1 _ _
    (sym c.loop.invariant.1.goes ∙ row_stop c.args.turns.g _ _ _ _ _ _ _ (turn _ _ c.loop-test.true) c.loop.invariant.1.deck _ _ c.put_slider_note-p.ensures _ _ c.with_column-own.ensures _ (sym c.find_column.ensures ∙ ap number c.in_err-e.was))

pub returns : goal.returns
returns c = record { says = sym (row_end c.args.turns.g _ _ _ _ _ _ (omega (arith, c.loop-test.false))) ∙ c.loop.invariant.1.goes; few = omega arith }
