-- `circle_notes::add_centre` meets its contract. Assumes nothing.
use native.Mathlib.Omega.{arith}
use Rattle.random.specs.Play.{play}
use Rattle.mania.specs.HitObject.{add_centre}
use Rattle.pattern.specs.Laws.Words.{at_most_le}
use Rattle.circle_notes.proofs.add_centre.Goals as goal

pub returns-then-centre : goal.returns-then-centre
unfolding add_centre
returns-then-centre c =
    let k = c.add_note.ensures in
    (rw c.if-centre.true k.0, at_most_le _ 13 (omega arith) c.add_note.result k.1)

pub returns : goal.returns
unfolding add_centre play
returns c = (rw c.if-centre.false, omega arith)
