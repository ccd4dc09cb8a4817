-- `hit_object_lines::lines::head_size` meets its contract. Assumes nothing.
use native.Mathlib.Omega.{arith}
use Rattle.hit_object_lines.specs.Laws.Text.{length_head}
use Rattle.hit_object_lines.proofs.lines.head_size.Goals as goal

pub returns : goal.returns
returns c = let a = c.args in (omega (arith, length_head a.x a.start), omega arith)
