-- `slider_notes::add_besides` meets its contract. The invariant is `At`.
-- Assumes nothing.
use mathlib.Core.Path.{◌≡◌, sym, ap, subst, ◌∙◌}
use Prim.Native.Nat.{◌+◌, ◌≤◌, ◌<◌}
use native.Mathlib.Omega.{arith}
use Rattle.random.specs.Play.{found, on}
use Rattle.mania.specs.PathObject.{add_beside}
use Rattle.pattern.specs.Answers.{pattern}
use Rattle.slider_notes.specs.Words.{of_word}
use Rattle.slider_notes.specs.Answers.{reached, many', at}
use Rattle.slider_notes.specs.declared.Reached.{Reached}
use Rattle.std.specs.Prelude.{Result}
use Rattle.random.specs.declared.Draws.{Draws}
use Rattle.random.specs.declared.Refused.{Refused}
use Rattle.slider_notes.proofs.Words.{all, ahead, less_row, turn}
use Rattle.slider_notes.proofs.Loops.{start, here_le, besides_more, besides_stop, besides_end}
use Rattle.slider_notes.proofs.Ends.{stops}
use Rattle.slider_notes.proofs.add_besides.Goals as goal
use Rattle.slider_notes.proofs.add_besides.Goals.{In_ok-row}

pub loop-init : goal.loop-init
loop-init c = (rw (all c.args.turns.n) c.args.turns.times, start _ _ _ _ _ _ _ _ (omega arith) c.args.turns.on_deck.2)

pub add_beside-requires : goal.add_beside-requires
add_beside-requires c =
    let a = c.args in
    let l = c.loop in
    let few : c.beside-here.result ≤ a.k = rw c.beside-here.ensures (here_le a.turns.g a.bare a.k l.time) in
    omega (arith, few)

-- what the row gave, in the rule's words
got : (c : In_ok-row)
    → let a = c.args in let l = c.loop in
    on (add_beside a.turns.g a.hold l.time c.beside-here.result l.c 0 (pattern of_word l.words l.p)) l.rest
    ≡ found (c.in_ok-row.row.column, pattern of_word c.add_beside.new.words c.in_ok-row.row.pattern) c.in_ok-row.next
got c = sym c.add_beside.ensures.says ∙ ap (reached c.add_beside.new.words) c.in_ok-row.was

pub loop-preserved : goal.loop-preserved
loop-preserved c =
    let a = c.args in
    let l = c.loop in
    let r = c.in_ok-row.was in
    let few : c.beside-here.result ≤ a.k = rw c.beside-here.ensures (here_le a.turns.g a.bare a.k l.time) in (
      ahead _ _ _ _ _ (turn _ _ c.loop-test.true) l.invariant.0,
      record {
        size = c.add_beside.auto.words ∙ l.invariant.1.size;
        room = less_row _ _ c.beside-here.result _ _ _ (subst (λ (x : Result (Reached × Draws) Refused). many' x ≤ l.p.count + c.beside-here.result) r c.add_beside.ensures.few) (omega (arith, few, c.requires.2)) (turn _ _ c.loop-test.true) l.invariant.1.room;
        deck = subst (λ (x : Result (Reached × Draws) Refused). at x < a.turns.g.columns) r c.add_beside.ensures.deck;
        goes = sym (besides_more _ _ _ _ _ _ _ _ _ _ _ (turn _ _ c.loop-test.true) _ c.beside-here.ensures _ _ _ _ (got (goal.at.loop-preserved c).In_ok-row)) ∙ l.invariant.1.goes;
      },
    )

pub returns-in_err-row : goal.returns-in_err-row
returns-in_err-row c =
    stops _ _ _ c.from_residual.ensures.1 _ _
    (sym c.loop.invariant.1.goes ∙ besides_stop _ _ _ _ _ _ _ _ _ _ _ (turn _ _ c.loop-test.true) _ c.beside-here.ensures _ _ (sym c.add_beside.ensures.says ∙ ap (reached c.add_beside.new.words) c.in_err-row.was))

pub returns : goal.returns
returns c = record { says = sym (besides_end _ _ _ _ _ _ _ _ _ _ (omega (arith, c.loop-test.false))) ∙ c.loop.invariant.1.goes; few = omega arith }
