-- `announced::rest_refusal` meets its contract, by that of the entry's checks. Assumes nothing.
use lib.Ieee.{round, of_bits}
use Rattle.announced.specs.Announced.{nothing, rest_refusal}
use Rattle.announced.proofs.rest_refusal.Goals as goal

pub returns : goal.returns
unfolding rest_refusal nothing round of_bits
returns c = rw (← c.facts_of-facts.ensures, ← c.object_of-object.ensures) c.entry_refusal.ensures
