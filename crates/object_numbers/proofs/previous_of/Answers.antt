-- `object_numbers::previous_of` meets its contract. Assumes nothing.
use Rattle.object_numbers.proofs.previous_of.Goals as goal

pub returns : goal.returns
returns c = rw (c.stair_of-stair.ensures, c.saturate_u8-last.ensures, c.saturate_u16-mask.ensures)
