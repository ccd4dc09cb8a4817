-- `object_numbers::facts_of` meets its contract. Assumes nothing.
use Rattle.object_numbers.proofs.facts_of.Goals as goal

pub returns : goal.returns
returns c = rw c.is_set-kiai.ensures
