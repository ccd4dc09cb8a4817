-- `slider_patterns::holds_over` meets its contract. Assumes nothing.
use native.Mathlib.Omega.{arith}
use lib.Count.{ones-le}
use Rattle.pattern.specs.Laws.Searches.{start_lt}
use borrow.Author.Rules.{rules}
use Rattle.slider_patterns.proofs.holds_over.Goals as goal

pub overflow_sub-deck : goal.overflow_sub-deck
overflow_sub-deck c =
    let k = c.random_start.ensures in
    omega (arith, start_lt c.args.columns c.requires.0)

pub overflow_add-all : goal.overflow_add-all
overflow_add-all c = omega (arith, c.column_count.ensures.0, ones-le 16 c.args.mask c.ranges.mask.fits)

pub returns : goal.returns
returns c = (search rules, omega (arith, ones-le 16 c.args.mask c.ranges.mask.fits))
