-- `density::compute_density` meets its contract: by those of the two functions that it calls. Assumes nothing.
use Rattle.density.specs.Queued.{queued}
use Rattle.density.proofs.Queue.{computed}
use Rattle.density.proofs.compute_density.Goals as goal

pub returns : goal.returns
unfolding queued
returns c = computed c.push-p.result (queued c.args.d) c.args.time c.density_of-value.result c.push-p.ensures c.density_of-value.ensures
