-- `chart::bytes::put8` meets its contract. Each store adds a byte to those before it (`be_next`).
-- Assumes nothing.
use mathlib.Core.Path.{◌≡◌, sym}
use Prim.Native.Nat.{◌+◌, ◌/◌}
use native.Mathlib.Omega.{arith}
use lib.ListN.{length-set}
use Rattle.chart.specs.Bytes.{be, splice}
use Rattle.chart.specs.Laws.Bytes.{be_zero, be_next, splice_none}
use Rattle.chart.proofs.bytes.put8.Goals as goal

pub bounds-s-at-2 : goal.bounds-s-at-2
bounds-s-at-2 c = simp length-set (omega arith)

pub bounds-s-at-3 : goal.bounds-s-at-3
bounds-s-at-3 c = simp length-set (omega arith)

pub bounds-s-at-4 : goal.bounds-s-at-4
bounds-s-at-4 c = simp length-set (omega arith)

pub bounds-s-at-5 : goal.bounds-s-at-5
bounds-s-at-5 c = simp length-set (omega arith)

pub bounds-s-at-6 : goal.bounds-s-at-6
bounds-s-at-6 c = simp length-set (omega arith)

pub bounds-s-at-7 : goal.bounds-s-at-7
bounds-s-at-7 c = simp length-set (omega arith)

pub bounds-s-at-8 : goal.bounds-s-at-8
bounds-s-at-8 c = simp length-set (omega arith)

pub shape_of-s : goal.shape_of-s
shape_of-s c = simp length-set

pub returns : goal.returns
returns c =
    let s = c.args.s.now in
    let i = c.args.at in
    let v = c.args.value in
    let none : s ≡ splice s i (be 0 (v / 72057594037927936 / 256)) = sym (rw (be_zero (v / 72057594037927936 / 256)) (splice_none s i (omega arith))) in
    let e1 = be_next s s i 0 i (v / 72057594037927936) (v / 72057594037927936 / 256) none (omega arith) (omega arith) (omega arith) in
    let e2 = be_next s _ i 1 (i + 1) (v / 281474976710656) (v / 72057594037927936) e1 (omega arith) (omega arith) (omega arith) in
    let e3 = be_next s _ i 2 (i + 2) (v / 1099511627776) (v / 281474976710656) e2 (omega arith) (omega arith) (omega arith) in
    let e4 = be_next s _ i 3 (i + 3) (v / 4294967296) (v / 1099511627776) e3 (omega arith) (omega arith) (omega arith) in
    let e5 = be_next s _ i 4 (i + 4) (v / 16777216) (v / 4294967296) e4 (omega arith) (omega arith) (omega arith) in
    let e6 = be_next s _ i 5 (i + 5) (v / 65536) (v / 16777216) e5 (omega arith) (omega arith) (omega arith) in
    let e7 = be_next s _ i 6 (i + 6) (v / 256) (v / 65536) e6 (omega arith) (omega arith) (omega arith) in
    be_next s _ i 7 (i + 7) v (v / 256) e7 (omega arith) (omega arith) (omega arith)
