-- `chart_text::put_head_line` meets its contract: the line is one of two numbers and the draws. Assumes nothing.
use Rattle.text.specs.Text.{ascii}
use Rattle.chart_text.specs.Text.{draws_line, head_line}
use Rattle.chart_text.proofs.put_head_line.Goals as goal

pub returns : goal.returns
unfolding draws_line head_line ascii
returns c = c.put_draws_line.ensures
