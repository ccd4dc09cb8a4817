-- `record_object::read_repeats` meets its contract: a field of 10 bits fits. Assumes nothing.
use lib.Dec.{lit≤}
use Rattle.record.specs.Laws.Widths.{bits_fit}
use Rattle.record_object.proofs.read_repeats.Goals as goal

pub overflow_cast-result : goal.overflow_cast-result
overflow_cast-result c = rw c.read_bits.ensures (record { fits = bits_fit _ _ 10 16 (lit≤ tt) })

pub returns : goal.returns
returns c = c.read_bits.ensures
