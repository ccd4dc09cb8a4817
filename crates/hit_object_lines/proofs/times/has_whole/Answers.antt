-- `hit_object_lines::times::has_whole` meets its contract (`whole_pattern`). Assumes nothing.
use Rattle.hit_object_lines.specs.Laws.Times.{whole_pattern}
use Rattle.hit_object_lines.proofs.times.has_whole.Goals as goal

pub returns : goal.returns
returns c =
    rw (c.time_of.ensures, c.milliseconds.ensures.0) (whole_pattern c.args.bits c.requires)
