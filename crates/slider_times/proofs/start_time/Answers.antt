-- `slider_times::start_time` meets its contract. Assumes nothing.
use Rattle.mania.specs.PathObject.{start_time}
use Rattle.slider_times.proofs.start_time.Goals as goal

pub returns : goal.returns
unfolding start_time
returns c = c.to_count.ensures
