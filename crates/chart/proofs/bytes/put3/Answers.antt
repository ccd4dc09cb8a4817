-- `chart::bytes::put3` meets its contract. Each store adds a byte to those before it (`be_next`).
-- Assumes nothing.
use mathlib.Core.Path.{◌≡◌, sym}
use Prim.Native.Nat.{◌+◌, ◌/◌}
use native.Mathlib.Omega.{arith}
use lib.ListN.{length-set}
use Rattle.chart.specs.Bytes.{be, splice}
use Rattle.chart.specs.Laws.Bytes.{be_zero, be_next, splice_none}
use Rattle.chart.proofs.bytes.put3.Goals as goal

pub bounds-s-at-2 : goal.bounds-s-at-2
bounds-s-at-2 c = simp length-set (omega arith)

pub bounds-s-at-3 : goal.bounds-s-at-3
bounds-s-at-3 c = simp length-set (omega arith)

pub shape_of-s : goal.shape_of-s
shape_of-s c = simp length-set

pub returns : goal.returns
returns c =
    let s = c.args.s.now in
    let i = c.args.at in
    let v = c.args.value in
    let none : s ≡ splice s i (be 0 (v / 65536 / 256)) = sym (rw (be_zero (v / 65536 / 256)) (splice_none s i (omega arith))) in
    let e1 = be_next s s i 0 i (v / 65536) (v / 65536 / 256) none (omega arith) (omega arith) (omega arith) in
    let e2 = be_next s _ i 1 (i + 1) (v / 256) (v / 65536) e1 (omega arith) (omega arith) (omega arith) in
    be_next s _ i 2 (i + 2) v (v / 256) e2 (omega arith) (omega arith) (omega arith)
