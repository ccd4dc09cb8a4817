-- `slider_notes::put_others` meets its contract. The invariant: the notes kept so far, and those of the words to come, are those of all. Assumes nothing.
use Rattle.std.proofs.Common.{sym, ◌∙◌, le_refl}
use Rattle.slider_notes.proofs.Order.{others_start, others_skip, others_keep, others_done}
use Rattle.slider_notes.proofs.put_others.Goals as goal
use Rattle.slider_notes.proofs.put_others.Goals.{then-end_of-end, else-end_of-end}

pub loop-w-init : goal.loop-w-init
loop-w-init c = others_start _ _ _ _

pub loop-w-preserved : goal.loop-w-preserved
loop-w-preserved c =
    let i = c.loop-w.invariant in
    let t = c.loop-w-test.true in
    elim c.if-end_of-end.branch [
      | then-end_of-end w ↦ rw (w.dst-is, w.k-is) (others_keep _ _ _ _ _ _ _ i t (le_refl _) c.requires (λ h. w.if-end_of-end.true (c.end_of.ensures ∙ h)))
      | else-end_of-end w ↦ rw (w.dst-is, w.k-is) (others_skip _ _ _ _ _ _ _ i t (le_refl _) (sym c.end_of.ensures ∙ w.if-end_of-end.false))
    ]

pub returns : goal.returns
returns c = others_done _ _ _ _ _ _ _ c.loop-w.invariant c.loop-w-test.false
