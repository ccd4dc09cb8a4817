-- `pattern::search_on` meets its contract. Assumes nothing.
use Rattle.mania.specs.PatternGenerator.{search_on}
use Rattle.pattern.proofs.search_on.Goals as goal

pub returns-in-Draw : goal.returns-in-Draw
unfolding search_on
returns-in-Draw c = rw c.in-Draw.is c.draw_to.ensures

pub returns-in-Step : goal.returns-in-Step
unfolding search_on
returns-in-Step c = rw c.in-Step.is c.step_to.ensures
