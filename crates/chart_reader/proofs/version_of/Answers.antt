-- `chart_reader::version_of` meets its contract. The test is the definition's.
-- Assumes nothing.
use borrow.Author.Tests.{eq-eqb, ne_eqb}
use Rattle.chart.specs.Chart.{version_of}
use Rattle.chart_reader.proofs.version_of.Goals as goal

pub returns-then-chart-eq1 : goal.returns-then-chart-eq1
unfolding version_of
returns-then-chart-eq1 c = rw (eq-eqb _ 1 c.if-chart-eq1.true)

pub returns-else-chart-eq1 : goal.returns-else-chart-eq1
unfolding version_of
returns-else-chart-eq1 c = rw (ne_eqb _ 1 c.if-chart-eq1.false)
