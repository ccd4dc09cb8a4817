-- `hit_object_reader::check_lines` meets its contract (`Loops`). The measure is the number of bytes left. Assumes nothing.
use Rattle.std.proofs.Common.{◌<◌, length, sym, ◌∙◌, arith}
use borrow.Author.Tests.{ltb-true, ltb-false, eqb-true, eqb-false}
use Rattle.hit_object_reader.proofs.Loops.{counting_first, counting_end, counting_full, counting_none, counting_falls, counting_next}
use Rattle.hit_object_reader.proofs.check_lines.Goals as goal

pub loop-rest-init : goal.loop-rest-init
loop-rest-init c = counting_first c.args.deck.columns c.args.s.now c.args.deck.fits

pub returns-then-count-eq-MOST_IN_CHART : goal.returns-then-count-eq-MOST_IN_CHART
returns-then-count-eq-MOST_IN_CHART c =
    let l = c.loop-rest in
    let more : 0 < length l.rest.now = omega (arith, eqb-false (length l.rest.now) 0 (sym c.loop-rest-test.ensures)) in
    counting_full c.args.deck.columns c.args.s.now l.last l.count l.rest.now l.invariant more c.if-count-eq-MOST_IN_CHART.true

pub returns-in_err-note : goal.returns-in_err-note
returns-in_err-note c =
    let l = c.loop-rest in
    let more : 0 < length l.rest.now = omega (arith, eqb-false (length l.rest.now) 0 (sym c.loop-rest-test.ensures)) in
    rw c.from_residual.ensures (counting_none c.args.deck.columns c.args.s.now l.last l.count l.rest.now l.invariant more (sym c.in_err-note.ensures.value))

pub returns-then-precedes : goal.returns-then-precedes
returns-then-precedes c =
    let l = c.loop-rest in
    let g = c.in_ok-note in
    let more : 0 < length l.rest.now = omega (arith, eqb-false (length l.rest.now) 0 (sym c.loop-rest-test.ensures)) in
    counting_falls c.args.deck.columns c.args.s.now l.last l.count l.rest.now l.invariant more g.note g.tail.now (sym g.ensures.value) (ltb-true _ _ (sym c.precedes.ensures ∙ c.if-precedes.true))

pub loop-rest-preserved : goal.loop-rest-preserved
loop-rest-preserved c =
    let l = c.loop-rest in
    let g = c.in_ok-note in
    let more : 0 < length l.rest.now = omega (arith, eqb-false (length l.rest.now) 0 (sym c.loop-rest-test.ensures)) in
    counting_next c.args.deck.columns c.args.s.now l.last l.count l.rest.now l.invariant more g.note g.tail.now (sym g.ensures.value)
    (ltb-false _ _ (sym c.precedes.ensures ∙ c.if-precedes.false)) (omega (arith, l.invariant.few)) (omega (arith, g.ensures.bounds.0, c.args.deck.fits.high)) g.ensures.bounds.2

pub returns : goal.returns
returns c = let l = c.loop-rest in counting_end c.args.deck.columns c.args.s.now l.last l.count l.rest.now l.invariant (eqb-true (length l.rest.now) 0 (sym c.loop-rest-test.ensures))
