-- `chart_writer::put_header` meets its contract. The store and the two splices after it are one splice of the header (`header_put`).
-- Assumes nothing.
use mathlib.Core.Path.{◌≡◌, ◌∙◌}
use Prim.Native.Nat.{◌≤◌}
use native.Mathlib.Omega.{arith}
use lib.ListN.{length, length-set}
use Rattle.chart.specs.Layout.{version_number}
use Rattle.chart.specs.declared.Version.{Version}
use Rattle.chart.specs.declared.Version.TheVariants.{One, Two}
use Rattle.chart.specs.Laws.Notes.{header_put}
use borrow.Author.Rules.{rules}
use Rattle.chart_writer.proofs.put_header.Goals as goal

-- a version's number fits its bits
small : (v : Version) → version_number v ≤ 2
small One = omega arith
small Two = omega arith

pub overflow_mul-s : goal.overflow_mul-s
overflow_mul-s c = let fits = small c.args.version in let is = c.from.ensures in search rules

pub overflow_add-s : goal.overflow_add-s
overflow_add-s c = let fits = small c.args.version in let is = c.from.ensures in search rules

pub put-requires : goal.put-requires
put-requires c = simp length-set (omega arith)

pub put-requires-2 : goal.put-requires-2
put-requires-2 c =
    let kept : length c.put.new.s ≡ length c.args.s.now = c.put.auto.s ∙ simp length-set in
    rw kept (omega arith)

pub shape_of-s : goal.shape_of-s
shape_of-s c = c.put-2.auto.s ∙ c.put.auto.s ∙ simp length-set

pub returns : goal.returns
returns c =
    let a = c.args in
    c.put-2.ensures ∙ rw (c.put.ensures, c.from.ensures, c.from-2.ensures, c.from-3.ensures) (header_put a.version a.s.now a.columns a.notes a.draws c.requires.1)
