-- `random::draw` meets its contract: with no draw left it is `draw_none`, else the rule goes on at the value of the next step.
-- Assumes nothing.
use Rattle.rules.specs.Rule.{give}
use Rattle.rules.specs.Refusal.{number, spent_number}
use Rattle.random.specs.Play.{play}
use mathlib.Core.Path.{sym}
use Rattle.random.specs.Laws.Play.{draw_none, draw_some}
use Rattle.random.proofs.draw.Goals as goal

pub returns-then-left-eq0 : goal.returns-then-left-eq0
returns-then-left-eq0 c = sym (draw_none (λ p. spent_number) number tt give c.args.d c.if-left-eq0.true)

pub returns : goal.returns
unfolding play
returns c =
    let d = c.args.d in
    let s = c.lent_step-value.ensures in
    rw (draw_some (λ p. spent_number) number (tt {0}) give d.tally.left d.tally.longest d.random c.if-left-eq0.false, s.0, s.1)
