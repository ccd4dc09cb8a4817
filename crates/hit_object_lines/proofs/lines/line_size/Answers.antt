-- `hit_object_lines::lines::line_size` meets its contract. Assumes nothing.
use mathlib.Core.Path.{ap}
use Prim.Native.Nat.{◌+◌}
use native.Mathlib.Omega.{arith}
use lib.ListN.{length}
use Rattle.hit_object_lines.specs.Lines.{Line, line_text}
use Rattle.hit_object_lines.specs.Laws.Notes.{start_in_law, duration_in_law, line_hold, line_circle}
use Rattle.hit_object_lines.specs.Laws.Text.{length_hold, length_circle}
use Rattle.hit_object_lines.proofs.lines.line_size.Goals as goal

pub milliseconds-start-requires : goal.milliseconds-start-requires
milliseconds-start-requires c = start_in_law _ _ c.requires

pub milliseconds-requires : goal.milliseconds-requires
milliseconds-requires c = duration_in_law _ _ c.requires

pub returns-then-n : goal.returns-then-n
returns-then-n c =
    let is = line_hold c.args.columns c.args.n c.requires c.if-n.true c.x_of.ensures c.milliseconds-start.ensures.0 c.milliseconds.ensures.0 in
    let all = ap (λ (l : Line). length (line_text l)) is in
    (omega (arith, all, length_hold c.x_of.result c.milliseconds-start.result (c.milliseconds-start.result + c.milliseconds.result)), omega arith)

pub returns : goal.returns
returns c =
    let is = line_circle c.args.columns c.args.n c.requires c.if-n.false c.x_of.ensures c.milliseconds-start.ensures.0 in
    let all = ap (λ (l : Line). length (line_text l)) is in
    (omega (arith, all, length_circle c.x_of.result c.milliseconds-start.result), omega arith)
