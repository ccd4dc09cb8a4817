-- `hit_object_type::chances_by` meets its contract: each literal is the float nearest to its hundredths, by computation. Assumes nothing.
use Rattle.std.proofs.Common.{◌∙◌}
use lib.Ieee.{round, of_bits}
use Rattle.mania.specs.HitObject.{percent, chances_by}
use Rattle.hit_object_type.proofs.chances_by.Goals as goal

pub returns-then-rare : goal.returns-then-rare
unfolding chances_by percent round of_bits
returns-then-rare c = c.two_or_three.ensures ∙ rw (c.if-difficulty.true, c.if-rare.true)

pub returns-else-rare : goal.returns-else-rare
unfolding chances_by percent round of_bits
returns-else-rare c = c.two_or_three-else-rare.ensures ∙ rw (c.if-difficulty.true, c.if-rare.false)

pub returns-then-rare-2 : goal.returns-then-rare-2
unfolding chances_by percent round of_bits
returns-then-rare-2 c = c.two_or_three-then-rare-2.ensures ∙ rw (c.if-difficulty.false, c.if-difficulty-2.true, c.if-rare-2.true)

pub returns-else-rare-2 : goal.returns-else-rare-2
unfolding chances_by percent round of_bits
returns-else-rare-2 c = c.two_or_three-else-rare-2.ensures ∙ rw (c.if-difficulty.false, c.if-difficulty-2.true, c.if-rare-2.false)

pub returns-then-rare-3 : goal.returns-then-rare-3
unfolding chances_by percent round of_bits
returns-then-rare-3 c = c.two_or_three-then-rare-3.ensures ∙ rw (c.if-difficulty.false, c.if-difficulty-2.false, c.if-difficulty-3.true, c.if-rare-3.true)

pub returns-else-rare-3 : goal.returns-else-rare-3
unfolding chances_by percent round of_bits
returns-else-rare-3 c = c.two_or_three-else-rare-3.ensures ∙ rw (c.if-difficulty.false, c.if-difficulty-2.false, c.if-difficulty-3.true, c.if-rare-3.false)

pub returns : goal.returns
unfolding chances_by percent round of_bits
returns c = c.two_or_three-2.ensures ∙ rw (c.if-difficulty.false, c.if-difficulty-2.false, c.if-difficulty-3.false)
