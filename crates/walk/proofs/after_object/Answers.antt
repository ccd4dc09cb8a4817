-- `walk::after_object` meets its contract. Assumes nothing.
use Rattle.mania.specs.Convert.{walk_after}
use Rattle.walk.specs.Kept.{walk_of}
use Rattle.walk.proofs.after_object.Goals as goal

pub returns : goal.returns
unfolding walk_of walk_after
returns c =
    rw (c.time_after.ensures, c.position_after.ensures, c.density_after.ensures, c.span_in-span.ensures)
