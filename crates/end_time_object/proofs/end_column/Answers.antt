-- `end_time_object::end_column` meets its contract: a drawn column, and the search from it. Assumes nothing.
use mathlib.Core.Path.{sym, ap, ◌∙◌}
use Prim.Native.Nat.{◌<◌}
use Rattle.random.specs.Answers.{number}
use Rattle.random.specs.Laws.Try.{goes_on, leaves}
use Rattle.mania.specs.PatternGenerator.{get_random_column}
use Rattle.mania.specs.EndTimeObject.{end_column}
use Rattle.pattern.specs.Laws.Searches.{start_lt}
use Rattle.pattern.specs.Laws.Bounds.{drawn_lt}
use Rattle.end_time_object.proofs.end_column.Goals as goal
use Rattle.end_time_object.proofs.end_column.Goals.{After-random_start-low}

-- the first column of the search is on the deck
low : (c : After-random_start-low) → c.random_start-low.result < c.args.g.columns
low c = rw c.random_start-low.ensures (start_lt _ c.args.g.some)

pub get_random_column-requires : goal.get_random_column-requires
get_random_column-requires c = (low (goal.at.get_random_column-requires c).After-random_start-low, c.args.g.deck)

pub returns-in_err-c : goal.returns-in_err-c
unfolding end_column
returns-in_err-c c =
    rw (← c.random_start-low.ensures) (leaves _ (get_random_column _ _) _ _ _ _ _ _ c.get_random_column.ensures c.in_err-c.was c.from_residual.ensures.1)

pub invariant_of-search-clause-on_deck : goal.invariant_of-search-clause-on_deck
invariant_of-search-clause-on_deck c =
    drawn_lt _ _ (low (goal.at.invariant_of-search-clause-on_deck c).After-random_start-low) _ _ _
    (sym c.get_random_column.ensures ∙ ap number c.in_ok-c.was)

pub invariant_of-search-clause-some : goal.invariant_of-search-clause-some
invariant_of-search-clause-some c = low (goal.at.invariant_of-search-clause-some c).After-random_start-low

pub returns : goal.returns
unfolding end_column
returns c =
    c.find_available_column.ensures
    ∙ sym (rw (← c.random_start-low.ensures) (goes_on _ (get_random_column _ _) _ _ _ _ _ c.get_random_column.ensures c.in_ok-c.was ∙ rw (← c.barred-taken.ensures)))
