-- `chart::rows::note_by` meets its contract. The head and the two times that were read are those of `note_of`.
-- Assumes nothing.
use mathlib.Core.Path.{◌≡◌, refl}
use Prim.Native.Nat.{◌+◌}
use native.Mathlib.Omega.{arith}
use lib.Seq.{drop-drop}
use Rattle.chart.specs.Layout.{head_size}
use Rattle.chart.specs.Chart.{note_of}
use Rattle.chart.proofs.rows.note_by.Goals as goal

pub returns : goal.returns
unfolding note_of
returns c =
    let a = c.args in
    let size = head_size a.version in
    let last : a.at + size + 8 ≡ a.at + (size + 8) = omega arith in
    rw (drop-drop size a.at a.s.now, drop-drop (size + 8) a.at a.s.now, c.get8.ensures, c.get8-2.ensures, c.origin_of.ensures, c.column_unit.ensures, c.column_unit-2.ensures, c.hold_unit.ensures, c.head_at-head.ensures.0, c.head_size-size.ensures, last) refl
