-- `pattern::note_count` meets its contract: each arm returns what the tests on the way to it pick. Assumes nothing.
use lib.Ieee.{round, of_bits}
use Rattle.mania.specs.PatternGenerator.{note_count}
use Rattle.pattern.proofs.note_count.Goals as goal

pub returns-then-val-p6 : goal.returns-then-val-p6
unfolding note_count round of_bits
returns-then-val-p6 c = rw c.if-val-p6.true

pub returns-then-val-p5 : goal.returns-then-val-p5
unfolding note_count round of_bits
returns-then-val-p5 c = rw (c.if-val-p6.false, c.if-val-p5.true)

pub returns-then-val-p4 : goal.returns-then-val-p4
unfolding note_count round of_bits
returns-then-val-p4 c = rw (c.if-val-p6.false, c.if-val-p5.false, c.if-val-p4.true)

pub returns-then-val-p3 : goal.returns-then-val-p3
unfolding note_count round of_bits
returns-then-val-p3 c = rw (c.if-val-p6.false, c.if-val-p5.false, c.if-val-p4.false, c.if-val-p3.true)

pub returns-then-val-p2 : goal.returns-then-val-p2
unfolding note_count round of_bits
returns-then-val-p2 c = rw (c.if-val-p6.false, c.if-val-p5.false, c.if-val-p4.false, c.if-val-p3.false, c.if-val-p2.true)

pub returns-else-val-p2 : goal.returns-else-val-p2
unfolding note_count round of_bits
returns-else-val-p2 c = rw (c.if-val-p6.false, c.if-val-p5.false, c.if-val-p4.false, c.if-val-p3.false, c.if-val-p2.false)
