-- `chart_lookup::starting::write_run` meets its contract. The invariant: the places written, and those that are left, are all (`Wrote`).
-- Assumes nothing.
use mathlib.Core.Path.{◌≡◌}
use Prim.Native.Nat.{◌+◌, ◌-◌, ◌<◌}
use native.Mathlib.Nat.{add-zero}
use native.Mathlib.Omega.{arith}
use borrow.Author.Rules.{rules}
use lib.ListN.{length}
use Rattle.chart_lookup.specs.Laws.Places.{length_run, run_next, run_end, wrote_none, wrote_next, wrote_all}
use Rattle.chart_lookup.proofs.starting.write_run.Goals as goal
use Rattle.chart_lookup.proofs.starting.write_run.Goals.{In-loop-k}

pub loop-k-init : goal.loop-k-init
loop-k-init c = let all : c.args.found - 0 ≡ c.args.found = omega arith in rw (add-zero c.args.first, all) (wrote_none _ _)

room : (c : In-loop-k) → c.loop-k.k < length c.loop-k.list
room c = omega (arith, c.loop-k.invariant.long, c.requires.1, c.loop-k-test.true)

pub offset_bounds-list-k : goal.offset_bounds-list-k
offset_bounds-list-k c = let r = room (goal.at.offset_bounds-list-k c).In-loop-k in search rules

pub bounds-list-k : goal.bounds-list-k
bounds-list-k c = room (goal.at.bounds-list-k c).In-loop-k

pub loop-k-preserved : goal.loop-k-preserved
loop-k-preserved c =
    wrote_next _ _ _ _ _ _ (rw (length_run c.args.first c.args.found) c.requires.1) (rw (run_next c.args.first c.args.found c.loop-k.k c.loop-k-test.true) at c.loop-k.invariant)

pub shape_of-list : goal.shape_of-list
shape_of-list c = c.loop-k.invariant.long

pub returns : goal.returns
returns c = wrote_all _ _ _ _ (rw (run_end (c.args.first + c.loop-k.k) c.args.found c.loop-k.k (search rules)) at c.loop-k.invariant)
