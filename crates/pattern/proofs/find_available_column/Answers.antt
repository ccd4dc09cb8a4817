-- `pattern::find_available_column` meets its contract: the column of the search, or its refusal. A free column is the search's own (`find_self`). Assumes nothing.
use mathlib.Core.Path.{sym, ap, ◌∙◌}
use Rattle.pattern.specs.Answers.{search_end}
use Rattle.random.specs.Laws.Try.{exit}
use Rattle.pattern.specs.Laws.Searches.{find_self, column_found, column_refused}
use Rattle.pattern.proofs.find_available_column.Goals as goal

pub returns-then-is_free : goal.returns-then-is_free
returns-then-is_free c = sym (column_found _ _ _ _ _ _ _ _ _ (find_self _ _ _ _ _ _ _ (sym c.is_free.ensures ∙ c.if-is_free.true)))

pub returns-in_err-found : goal.returns-in_err-found
returns-in_err-found c = exit _ _ _ c.from_residual.ensures.1 ∙ sym (column_refused _ _ _ _ _ _ _ _ _ (sym c.column_search.ensures ∙ ap search_end c.in_err-found.was))

pub returns : goal.returns
returns c = sym (column_found _ _ _ _ _ _ _ _ _ (sym c.column_search.ensures ∙ ap search_end c.in_ok-found.was))
