-- `slider_notes::add_rows` meets its contract. The invariant is `At`.
-- Assumes nothing.
use mathlib.Core.Path.{◌≡◌, sym, ap, ◌∙◌}
use native.Mathlib.Omega.{arith}
use Rattle.random.specs.Play.{found, on}
use Rattle.random.specs.Answers.{number}
use Rattle.pattern.specs.Laws.Searches.{any_on_deck}
use Rattle.slider_notes.proofs.Words.{all, ahead, less_two, turn}
use Rattle.slider_notes.proofs.Decks.{other_lt}
use Rattle.slider_notes.proofs.Loops.{start, drawn, rows_more, rows_stop, rows_end}
use Rattle.slider_notes.proofs.Ends.{stops}
use Rattle.slider_notes.proofs.add_rows.Goals as goal
use Rattle.slider_notes.proofs.add_rows.Goals.{In_ok-e}

pub loop-init : goal.loop-init
loop-init c = (rw (all c.args.turns.n) c.args.turns.times, start _ _ _ _ _ _ _ _ (omega arith) c.args.turns.on_deck.2)

-- what was drawn, in the rule's words
got : (c : In_ok-e)
    → on (drawn c.args.turns.g) c.loop.rest ≡ found c.in_ok-e.e c.in_ok-e.next
got c = sym c.any_column.ensures ∙ ap number c.in_ok-e.was

pub loop-preserved : goal.loop-preserved
loop-preserved c = (
  ahead _ _ _ _ _ (turn _ _ c.loop-test.true) c.loop.invariant.0,
  record {
    size = c.put_other-p.auto.words ∙ c.put_slider_note-p.auto.words ∙ c.loop.invariant.1.size;
    room = less_two _ _ _ _ _ _ c.put_slider_note-p.ensures.more c.put_other-p.ensures.more (turn _ _ c.loop-test.true) c.loop.invariant.1.room;
    deck = any_on_deck _ c.args.turns.on_deck.0 _ _ _ (got (goal.at.loop-preserved c).In_ok-e);
    goes =
        sym
        (rows_more _ _ _ _ _ _ _ _ _ (turn _ _ c.loop-test.true) c.loop.invariant.1.deck (other_lt _ _ _ c.loop.invariant.1.deck c.requires.1) _ _ _ _
        c.put_slider_note-p.ensures c.put_other-p.ensures _ _ (got (goal.at.loop-preserved c).In_ok-e))
        ∙ c.loop.invariant.1.goes;
  },
)

pub returns-in_err-e : goal.returns-in_err-e
returns-in_err-e c =
    stops _ _ _ c.from_residual.ensures.1 _ _
    (sym c.loop.invariant.1.goes ∙ rows_stop _ _ _ _ _ _ _ _ _ (turn _ _ c.loop-test.true) c.loop.invariant.1.deck (other_lt _ _ _ c.loop.invariant.1.deck c.requires.1) _ _ _ _ c.put_slider_note-p.ensures c.put_other-p.ensures _ _ (sym c.any_column.ensures ∙ ap number c.in_err-e.was))

pub returns : goal.returns
returns c = record { says = sym (rows_end _ _ _ _ _ _ _ _ (omega (arith, c.loop-test.false))) ∙ c.loop.invariant.1.goes; few = omega arith }
