-- `slider_notes::legacy` meets its contract. Assumes nothing.
use Rattle.mania.specs.PathObject.{legacy}
use Rattle.slider_notes.proofs.legacy.Goals as goal

pub returns-then-middle : goal.returns-then-middle
unfolding legacy
returns-then-middle c = simp c.if-middle.true

pub returns-else-middle : goal.returns-else-middle
unfolding legacy
returns-else-middle c = simp c.if-middle.false
