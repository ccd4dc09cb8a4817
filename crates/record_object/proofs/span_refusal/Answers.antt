-- `record_object::span_refusal` meets its contract: the bounds, as the code and as the definition write them, are the same floats.
-- Assumes nothing.
use lib.Ieee.{neg, round, size, span, climb, units, odd, of_bits, of_fields}
use Rattle.record_object.proofs.span_refusal.Goals as goal

pub returns : goal.returns
unfolding neg round size span climb units odd of_bits of_fields
returns c = c.float_refusal.ensures
