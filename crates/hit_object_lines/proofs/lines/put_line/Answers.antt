-- `hit_object_lines::lines::put_line` meets its contract. Assumes nothing.
use Rattle.hit_object_lines.specs.Laws.Notes.{start_in_law, duration_in_law, line_hold, line_circle}
use Rattle.hit_object_lines.proofs.lines.put_line.Goals as goal

pub milliseconds-start-requires : goal.milliseconds-start-requires
milliseconds-start-requires c = start_in_law _ _ c.requires.0

pub milliseconds-requires : goal.milliseconds-requires
milliseconds-requires c = duration_in_law _ _ c.requires.0

pub put_hold-requires : goal.put_hold-requires
put_hold-requires c =
    let is = line_hold c.args.columns c.args.n c.requires.0 c.if-n.true c.x_of-x.ensures c.milliseconds-start.ensures.0 c.milliseconds.ensures.0 in
    rw is c.requires.1

pub returns-then-n : goal.returns-then-n
returns-then-n c =
    let is = line_hold c.args.columns c.args.n c.requires.0 c.if-n.true c.x_of-x.ensures c.milliseconds-start.ensures.0 c.milliseconds.ensures.0 in
    rw (← is) c.put_hold.ensures

pub put_circle-requires : goal.put_circle-requires
put_circle-requires c =
    let is = line_circle c.args.columns c.args.n c.requires.0 c.if-n.false c.x_of-x.ensures c.milliseconds-start.ensures.0 in
    rw is c.requires.1

pub returns : goal.returns
returns c =
    let is = line_circle c.args.columns c.args.n c.requires.0 c.if-n.false c.x_of-x.ensures c.milliseconds-start.ensures.0 in
    rw (← is) c.put_circle.ensures
