-- `slider_times::chances_by` meets its contract. Assumes nothing.
use Rattle.std.proofs.Common.{◌∙◌}
use lib.Ieee.{round, of_bits}
use Rattle.mania.specs.PathObject.{percent, chances_by}
use Rattle.slider_times.proofs.chances_by.Goals as goal

pub returns-then-rare : goal.returns-then-rare
unfolding chances_by percent round of_bits
returns-then-rare c = c.new.ensures ∙ rw (c.if-difficulty.true, c.if-rare.true)

pub returns-else-rare : goal.returns-else-rare
unfolding chances_by percent round of_bits
returns-else-rare c = c.new-else-rare.ensures ∙ rw (c.if-difficulty.true, c.if-rare.false)

pub returns-then-rare-2 : goal.returns-then-rare-2
unfolding chances_by percent round of_bits
returns-then-rare-2 c = c.new-then-rare-2.ensures ∙ rw (c.if-difficulty.false, c.if-difficulty-2.true, c.if-rare-2.true)

pub returns-else-rare-2 : goal.returns-else-rare-2
unfolding chances_by percent round of_bits
returns-else-rare-2 c = c.new-else-rare-2.ensures ∙ rw (c.if-difficulty.false, c.if-difficulty-2.true, c.if-rare-2.false)

pub returns-then-rare-3 : goal.returns-then-rare-3
unfolding chances_by percent round of_bits
returns-then-rare-3 c = c.new-then-rare-3.ensures ∙ rw (c.if-difficulty.false, c.if-difficulty-2.false, c.if-difficulty-3.true, c.if-rare-3.true)

pub returns-else-rare-3 : goal.returns-else-rare-3
unfolding chances_by percent round of_bits
returns-else-rare-3 c = c.new-else-rare-3.ensures ∙ rw (c.if-difficulty.false, c.if-difficulty-2.false, c.if-difficulty-3.true, c.if-rare-3.false)

pub returns-then-rare-4 : goal.returns-then-rare-4
unfolding chances_by percent round of_bits
returns-then-rare-4 c = c.new-then-rare-4.ensures ∙ rw (c.if-difficulty.false, c.if-difficulty-2.false, c.if-difficulty-3.false, c.if-rare-4.true)

pub returns-else-rare-4 : goal.returns-else-rare-4
unfolding chances_by percent round of_bits
returns-else-rare-4 c = c.new-else-rare-4.ensures ∙ rw (c.if-difficulty.false, c.if-difficulty-2.false, c.if-difficulty-3.false, c.if-rare-4.false)
