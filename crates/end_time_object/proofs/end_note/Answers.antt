-- `end_time_object::end_note` meets its contract. Assumes nothing.
use lib.Ieee.{round, of_bits}
use Rattle.mania.specs.Made.{circle}
use Rattle.mania.specs.EndTimeObject.{end_note}
use Rattle.end_time_object.proofs.end_note.Goals as goal

pub returns-then-lasts : goal.returns-then-lasts
unfolding end_note round of_bits
returns-then-lasts c = rw c.if-lasts.true

pub returns-else-lasts : goal.returns-else-lasts
unfolding end_note circle round of_bits
returns-else-lasts c = rw c.if-lasts.false
