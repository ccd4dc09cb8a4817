-- `chart_reader::draws_in` meets its contract. Assumes nothing.
use Rattle.chart.specs.Chart.{draws_of}
use Rattle.chart_reader.proofs.draws_in.Goals as goal

pub returns : goal.returns
unfolding draws_of
returns c = c.get.ensures.0
