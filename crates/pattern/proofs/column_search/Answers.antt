-- `pattern::column_search` meets its contract: each return is a case of the rule. Assumes nothing.
use mathlib.Core.Path.{sym, ◌∙◌}
use Rattle.pattern.specs.Laws.Searches.{find_self, find_on, find_none}
use Rattle.pattern.proofs.column_search.Goals as goal

pub returns-then-is_free : goal.returns-then-is_free
returns-then-is_free c = sym (find_self _ _ _ _ _ _ _ (sym c.is_free.ensures ∙ c.if-is_free.true))

pub returns-then-any_free : goal.returns-then-any_free
returns-then-any_free c =
    c.search_on.ensures
    ∙ sym
    (find_on _ _ _ _ _ _ _ (sym c.is_free.ensures ∙ c.if-is_free.false)
    (sym c.any_free.ensures ∙ c.if-any_free.true))

pub returns : goal.returns
returns c =
    sym
    (find_none _ _ _ _ _ _ _ (sym c.is_free.ensures ∙ c.if-is_free.false)
    (sym c.any_free.ensures ∙ c.if-any_free.false))
