-- `slider_patterns::beside_count` meets its contract. Assumes nothing.
use Rattle.std.proofs.Common.{lt-ltb, le-ltb, ◌∙◌}
use lib.Ieee.{round, of_bits}
use Rattle.random.specs.Play.{play}
use Rattle.mania.specs.PathObject.{beside_count}
use Rattle.slider_patterns.proofs.beside_count.Goals as goal
use Rattle.slider_patterns.proofs.beside_count.Goals.{then-few, else-few, then-few-2, else-few-2}

pub returns-then-difficulty : goal.returns-then-difficulty
unfolding beside_count round of_bits
returns-then-difficulty c = c.one_or_two.ensures ∙ rw c.if-difficulty.true

pub returns-then-difficulty-2 : goal.returns-then-difficulty-2
unfolding beside_count round of_bits
returns-then-difficulty-2 c =
    let e = c.one_or_two-then-difficulty-2.ensures in
    elim c.if-few.branch [
      | then-few w ↦ e ∙ rw (c.if-difficulty.false, c.if-difficulty-2.true, lt-ltb _ _ w.if-few.true, w.one_or_two-is)
      | else-few w ↦ e ∙ rw (c.if-difficulty.false, c.if-difficulty-2.true, le-ltb _ _ w.if-few.false, w.one_or_two-is)
    ]

pub returns-then-difficulty-3 : goal.returns-then-difficulty-3
unfolding beside_count round of_bits
returns-then-difficulty-3 c =
    let e = c.one_or_two-then-difficulty-3.ensures in
    elim c.if-few-2.branch [
      | then-few-2 w ↦ e ∙ rw (c.if-difficulty.false, c.if-difficulty-2.false, c.if-difficulty-3.true, lt-ltb _ _ w.if-few-2.true, w.one_or_two-is)
      | else-few-2 w ↦ e ∙ rw (c.if-difficulty.false, c.if-difficulty-2.false, c.if-difficulty-3.true, le-ltb _ _ w.if-few-2.false, w.one_or_two-is)
    ]

pub returns : goal.returns
unfolding beside_count play round of_bits
returns c = rw (c.if-difficulty.false, c.if-difficulty-2.false, c.if-difficulty-3.false)
