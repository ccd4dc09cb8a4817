-- `slider_notes::add_stair` meets its contract. The invariant is `At`.
-- Assumes nothing.
use mathlib.Core.Path.{sym, ◌∙◌}
use native.Mathlib.Omega.{arith}
use Rattle.slider_notes.proofs.Words.{all, ahead, less_one, turn}
use Rattle.slider_notes.proofs.Decks.{falls, stair_lt}
use Rattle.slider_notes.proofs.Loops.{start, stair_more, stair_end}
use Rattle.slider_notes.proofs.add_stair.Goals as goal

pub loop-init : goal.loop-init
loop-init c = (rw (all c.args.turns.n) c.args.turns.times, start _ _ _ _ _ _ _ _ (omega arith) c.args.turns.on_deck.2)

pub step-c-requires : goal.step-c-requires
step-c-requires c =
    (omega arith, λ e. falls c.args.turns.g.columns c.loop.c c.loop.up c.requires.0 (sym c.rises-up.ensures ∙ e))

pub loop-preserved : goal.loop-preserved
loop-preserved c = (
  ahead _ _ _ _ _ (turn _ _ c.loop-test.true) c.loop.invariant.0,
  record {
    size = c.put_slider_note-p.auto.words ∙ c.loop.invariant.1.size;
    room = less_one _ _ _ _ _ c.put_slider_note-p.ensures.more (turn _ _ c.loop-test.true) c.loop.invariant.1.room;
    deck = rw (c.step-c.ensures, c.rises-up.ensures) (stair_lt c.args.turns.g.columns c.loop.c c.loop.up c.requires.0 c.loop.invariant.1.deck);
    goes =
        sym (stair_more _ _ _ _ _ _ _ _ _ (turn _ _ c.loop-test.true) c.loop.invariant.1.deck _ _ c.put_slider_note-p.ensures _ c.rises-up.ensures _ c.step-c.ensures)
        ∙ c.loop.invariant.1.goes;
  },
)

pub returns : goal.returns
returns c = record { says = sym (stair_end _ _ _ _ _ _ _ _ (omega (arith, c.loop-test.false))) ∙ c.loop.invariant.1.goes; few = omega arith }
