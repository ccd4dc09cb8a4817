-- `object_numbers::object_of` meets its contract. Assumes nothing.
use Rattle.object_numbers.proofs.object_of.Goals as goal

pub returns : goal.returns
returns c = rw c.saturate_u8-sound.ensures
