-- `circle_notes::add_special` meets its contract. Assumes nothing.
use native.Mathlib.Omega.{arith}
use Rattle.random.specs.Play.{play}
use Rattle.mania.specs.HitObject.{add_special}
use Rattle.pattern.specs.Laws.Words.{at_most_le}
use Rattle.circle_notes.proofs.add_special.Goals as goal

pub returns-then-low-clap : goal.returns-then-low-clap
unfolding add_special
returns-then-low-clap c =
    let k = c.add_note.ensures in
    (rw (← c.random_start-low.ensures, ← c.has_flag-clap.ensures, ← c.has_flag-finish.ensures, c.if-low-clap.true) k.0, at_most_le _ 14 (omega arith) c.add_note.result k.1)

pub returns : goal.returns
unfolding add_special play
returns c = (rw (← c.random_start-low.ensures, ← c.has_flag-clap.ensures, ← c.has_flag-finish.ensures, c.if-low-clap.false), omega arith)
