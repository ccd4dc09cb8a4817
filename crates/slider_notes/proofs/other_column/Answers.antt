-- `slider_notes::other_column` meets its contract. Assumes nothing.
use native.Mathlib.Omega.{arith}
use borrow.Author.Tests.{lt-ltb, le-ltb}
use Rattle.mania.specs.PathObject.{other_column}
use Rattle.slider_notes.proofs.Decks.{start_legacy}
use Rattle.slider_notes.proofs.other_column.Goals as goal

pub overflow_sub-columns : goal.overflow_sub-columns
overflow_sub-columns c =
    let l = c.random_start-start.ensures in
    omega (arith, start_legacy c.args.columns)

pub overflow_sub-result : goal.overflow_sub-result
overflow_sub-result c =
    let l = c.random_start-start.ensures in
    let k = c.legacy.ensures in
    omega (arith, start_legacy c.args.columns)

pub returns-then-c-interval : goal.returns-then-c-interval
unfolding other_column
returns-then-c-interval c = rw (← c.random_start-start.ensures, lt-ltb _ _ c.if-c-interval.true)

pub returns-else-c-interval : goal.returns-else-c-interval
unfolding other_column
returns-else-c-interval c = rw (← c.random_start-start.ensures, ← c.legacy.ensures, le-ltb _ _ c.if-c-interval.false)
