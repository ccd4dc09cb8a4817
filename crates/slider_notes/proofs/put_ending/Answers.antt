-- `slider_notes::put_ending` meets its contract. The invariant: the words to come, added to the pattern so far, give what all give. Assumes nothing.
use Rattle.std.proofs.Common.{sym, ◌∙◌, le_refl}
use Rattle.std.proofs.Math.Seq.{take-length}
use Rattle.slider_notes.proofs.Order.{ending_start, ending_more, ending_less, ending_room, ending_done}
use Rattle.slider_notes.proofs.put_ending.Goals as goal
use Rattle.slider_notes.proofs.put_ending.Goals.{then-end_of-end, else-end_of-end}

pub loop-w-init : goal.loop-w-init
loop-w-init c = ending_start _ _ _ _ _

pub put_word-p-requires : goal.put_word-p-requires
put_word-p-requires c =
    ending_room _ _ _ _ _ _ _ _ c.loop-w.invariant c.loop-w-test.true (le_refl _) (sym c.end_of.ensures ∙ c.if-end_of-end.true) (rw (take-length c.args.src.now) c.requires)

pub loop-w-preserved : goal.loop-w-preserved
loop-w-preserved c =
    let i = c.loop-w.invariant in
    let t = c.loop-w-test.true in
    elim c.if-end_of-end.branch [
      | then-end_of-end w ↦ rw (w.dst-is, w.p-is) (ending_more _ _ _ _ _ _ _ _ i t (le_refl _) (sym c.end_of.ensures ∙ w.if-end_of-end.true) _ _ w.put_word-p.ensures w.put_word-p.auto.words)
      | else-end_of-end w ↦ rw (w.dst-is, w.p-is) (ending_less _ _ _ _ _ _ _ _ i t (le_refl _) (λ h. w.if-end_of-end.false (c.end_of.ensures ∙ h)))
    ]

pub returns : goal.returns
returns c = ending_done _ _ _ _ _ _ _ _ c.loop-w.invariant c.loop-w-test.false
