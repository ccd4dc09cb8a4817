-- `slider_notes::beside` meets its contract. Assumes nothing.
use Rattle.slider_notes.proofs.beside.Goals as goal

pub returns-then-none : goal.returns-then-none
returns-then-none c = simp c.if-none.true

pub returns-else-none : goal.returns-else-none
returns-else-none c = simp c.if-none.false
