-- What the code of the walk keeps, as the definition has it. Assumes nothing.
use Rattle.mania.specs.Convert as Convert
use Rattle.density.specs.Queued.{queued}
use Rattle.walk.specs.declared.Walk.{Walk}

unfoldable pub walk_of : Walk → Convert.Walk
walk_of w = record { prev = w.prev; density = queued w.density; notes = w.notes }
