-- `record_object::distance_refusal` meets its contract: the bounds, as the code and as the definition write them, are the same floats.
-- Assumes nothing.
use Rattle.std.proofs.Common.{sym, ◌∙◌}
use lib.Ieee.{neg, round, size, span, climb, units, odd, of_bits, of_fields}
use Rattle.record_object.proofs.Objects.{distance_row}
use Rattle.record_object.proofs.distance_refusal.Goals as goal

pub returns : goal.returns
unfolding neg round size span climb units odd of_bits of_fields
returns c = rw (distance_row, sym c.read_flag.ensures ∙ c.if-not-read_flag.false) c.float_refusal.ensures
