-- `chart_lookup::covering::list_covering` meets its contract: from `end` on no note covers the instant; then a law for each answer.
-- Assumes nothing.
use mathlib.Core.Path.{◌≡◌, sym, ap, ◌∙◌}
use mathlib.Core.List.{List}
use Prim.Native.Nat.{ℕ}
use native.Mathlib.Omega.{arith}
use lib.ListN.{length}
use Rattle.chart.specs.Chart.{notes_in}
use Rattle.chart_lookup.specs.Lookup.{Covering, wanted}
use Rattle.chart_lookup.specs.Search.{Stretch, held_from}
use Rattle.chart_lookup.specs.Laws.Places.{none_found, too_many, some_found}
use Rattle.chart_lookup.specs.Laws.Wanted.{none_covers}
use Rattle.chart_lookup.proofs.covering.list_covering.Goals as goal
use Rattle.chart_lookup.proofs.covering.list_covering.Goals.{After-count_covering-found, After-first_covering-first}

pub first_covering-first-requires : goal.first_covering-first-requires
first_covering-first-requires c = omega (arith, c.args.notes.counted, c.starting_before-end.ensures.within)

-- from the first one to where starts are past the instant
stretch : (c : After-first_covering-first)
    → Stretch (wanted (Covering c.args.at.t)) (notes_in c.args.notes.chart.now) c.first_covering-first.result c.starting_before-end.result
stretch c = record { order = c.first_covering-first.ensures.0; within = c.starting_before-end.ensures.within; none_after = none_covers _ _ _ _ c.first_after.ensures c.starting_before-end.ensures }

pub count_covering-found-requires : goal.count_covering-found-requires
count_covering-found-requires c = stretch (goal.at.count_covering-found-requires c).After-first_covering-first

-- the number found is that of all
counts : (c : After-count_covering-found)
    → c.count_covering-found.result ≡ length (held_from c.args.at.t 0 c.args.notes.chart.now)
counts c = c.count_covering-found.ensures ∙ ap (λ (ps : List ℕ). length ps) c.first_covering-first.ensures.1

pub returns-then-found-eq0 : goal.returns-then-found-eq0
returns-then-found-eq0 c = none_found _ _ (sym (counts (goal.at.returns-then-found-eq0 c).After-count_covering-found) ∙ c.if-found-eq0.true)

pub returns-then-found-list : goal.returns-then-found-list
returns-then-found-list c = too_many _ _ (rw (counts (goal.at.returns-then-found-list c).After-count_covering-found) at c.if-found-list.true)

pub write_covering-requires : goal.write_covering-requires
write_covering-requires c = (stretch (goal.at.write_covering-requires c).After-first_covering-first, c.count_covering-found.ensures, c.if-found-list.false)

pub returns : goal.returns
returns c = let fits = rw (counts (goal.at.returns c).After-count_covering-found) at c.if-found-list.false in
    rw (c.write_covering.ensures, c.first_covering-first.ensures.1, counts (goal.at.returns c).After-count_covering-found)
    (some_found _ _ fits (λ e. c.if-found-eq0.false (counts (goal.at.returns c).After-count_covering-found ∙ e)))
