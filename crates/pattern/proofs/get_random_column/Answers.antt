-- `pattern::get_random_column` meets its contract: a draw, and what its value means. Assumes nothing.
use mathlib.Core.Path.{sym, ap, ◌∙◌}
use native.Mathlib.Omega.{arith}
use Rattle.random.specs.Play.{play, value}
use Rattle.random.specs.Answers.{number}
use Rattle.random.specs.Laws.Took.{took_small}
use Rattle.random.specs.Laws.Try.{goes_on, leaves}
use Rattle.mania.specs.PatternGenerator.{get_random_column}
use Rattle.pattern.proofs.get_random_column.Goals as goal

pub returns-in_err-v : goal.returns-in_err-v
unfolding get_random_column
returns-in_err-v c = leaves _ value _ _ _ _ _ _ c.draw.ensures c.in_err-v.was c.from_residual.ensures.1

pub next_int_range-requires : goal.next_int_range-requires
next_int_range-requires c = (took_small _ _ _ (sym c.draw.ensures ∙ ap number c.in_ok-v.was), omega arith, omega arith)

pub returns : goal.returns
unfolding get_random_column play
returns c = sym (goes_on _ value _ _ _ _ _ c.draw.ensures c.in_ok-v.was ∙ rw (← c.next_int_range.ensures))
