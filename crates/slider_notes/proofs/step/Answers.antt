-- `slider_notes::step` meets its contract. Assumes nothing.
use Rattle.slider_notes.proofs.step.Goals as goal

pub returns-then-up : goal.returns-then-up
returns-then-up c = simp c.if-up.true

pub returns-else-up : goal.returns-else-up
returns-else-up c = simp c.if-up.false
