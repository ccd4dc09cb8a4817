-- `record_object::read_sound` meets its contract: a field of 4 bits fits. Assumes nothing.
use lib.Dec.{lit≤}
use Rattle.record.specs.Laws.Widths.{bits_fit}
use Rattle.record_object.proofs.read_sound.Goals as goal

pub overflow_cast-result : goal.overflow_cast-result
overflow_cast-result c = rw c.read_bits.ensures (record { fits = bits_fit _ _ 4 8 (lit≤ tt) })

pub returns : goal.returns
returns c = c.read_bits.ensures
