-- `slider_patterns::head_column` meets its contract. Assumes nothing.
use mathlib.Core.Path.{sym, ◌∙◌}
use native.Mathlib.Omega.{arith}
use Rattle.slider_patterns.proofs.Rules.{head_moved, head_own}
use Rattle.pattern.specs.Laws.Searches.{get_column_lt}
use Rattle.slider_patterns.proofs.head_column.Goals as goal

pub find_column-requires : goal.find_column-requires
find_column-requires c =
    omega (arith, c.get_column-own.ensures, get_column_lt c.args.slider.g.x c.args.slider.g.columns (omega (arith, c.args.slider.fits.low)), c.args.slider.fits.low, c.args.slider.fits.high)

pub returns-then-is_moved : goal.returns-then-is_moved
returns-then-is_moved c =
    c.find_column.ensures
    ∙ sym (head_moved _ _ _ _ c.get_column-own.ensures _ c.is_moved.ensures c.if-is_moved.true)

pub returns : goal.returns
returns c = sym (head_own _ _ _ _ c.get_column-own.ensures _ c.is_moved.ensures c.if-is_moved.false)
