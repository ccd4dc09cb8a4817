-- `chart_lookup::starting::list_starting` meets its contract: the places asked for are those from `first` to `end`; then a law for each answer.
-- Assumes nothing.
use mathlib.Core.Path.{◌≡◌}
use mathlib.Core.List.{List}
use Prim.Native.Nat.{ℕ, ◌-◌}
use native.Mathlib.Omega.{arith}
use lib.ListN.{length}
use lib.Ieee.{Float}
use Rattle.chart.specs.Chart.{notes_in}
use Rattle.chart_lookup.specs.Lookup.{Starting, wanted, places}
use Rattle.chart_lookup.specs.Search.{run}
use Rattle.chart_lookup.specs.Laws.Places.{length_run, none_found, too_many, some_found}
use Rattle.chart_lookup.specs.Laws.Wanted.{none_between, all_between}
use Rattle.chart_lookup.proofs.starting.list_starting.Goals as goal
use Rattle.chart_lookup.proofs.starting.list_starting.Goals.{Else-end-first, Then-end-first}

-- the places asked for
abbrev asked : List ℕ → Float → Float → List ℕ
asked chart from to = places (wanted (Starting from to)) 0 (notes_in chart)

-- none asked for, where the first time's place is not before the second's
none : (c : Then-end-first) → length (asked c.args.notes.chart.now c.args.from.t c.args.to.t) ≡ 0
none c =
    none_between c.args.notes.chart.now c.args.from.t c.args.to.t (rw c.well_formed.1.0.1.1.0.1 tt) (rw c.well_formed.1.1.0.1.1.0.1 tt) c.args.from.is_finite c.args.to.is_finite _ _ _ _
    c.first_at.ensures c.first_after.ensures c.starting_before-first.ensures c.starting_before-end.ensures c.if-end-first.true

-- else they follow one another
all : (c : Else-end-first) → asked c.args.notes.chart.now c.args.from.t c.args.to.t ≡ run c.starting_before-first.result (c.starting_before-end.result - c.starting_before-first.result)
all c =
    all_between c.args.notes.chart.now c.args.from.t c.args.to.t (rw c.well_formed.1.0.1.1.0.1 tt) (rw c.well_formed.1.1.0.1.1.0.1 tt) c.args.from.is_finite c.args.to.is_finite _ _ _ _
    c.first_at.ensures c.first_after.ensures c.starting_before-first.ensures c.starting_before-end.ensures c.if-end-first.false

pub returns-then-end-first : goal.returns-then-end-first
returns-then-end-first c = none_found _ _ (none (goal.at.returns-then-end-first c).Then-end-first)

pub returns-then-found-list : goal.returns-then-found-list
returns-then-found-list c = too_many _ _ (rw (all (goal.at.returns-then-found-list c).Else-end-first, length_run _ _) c.if-found-list.true)

pub returns : goal.returns
returns c = let first = c.starting_before-first.result in
    let found = c.starting_before-end.result - first in
    rw (all (goal.at.returns c).Else-end-first, c.write_run.ensures)
    (rw (length_run first found) at (some_found (run first found) c.args.list.now (rw (length_run first found) c.if-found-list.false) (λ z. omega (arith, c.if-end-first.false, length_run first found, z))))
