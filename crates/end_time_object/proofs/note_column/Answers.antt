-- `end_time_object::note_column` meets its contract. Assumes nothing.
use lib.Ieee.{round, of_bits}
use Rattle.random.specs.Play.{play}
use Rattle.mania.specs.EndTimeObject.{note_column}
use Rattle.end_time_object.proofs.note_column.Goals as goal

pub returns-then-g-finish : goal.returns-then-g-finish
unfolding note_column round of_bits play
returns-then-g-finish c = rw (← c.has_flag-finish.ensures, c.if-g-finish.true)

pub returns : goal.returns
unfolding note_column round of_bits
returns c = rw (← c.has_flag-finish.ensures, c.if-g-finish.false) c.end_column.ensures
