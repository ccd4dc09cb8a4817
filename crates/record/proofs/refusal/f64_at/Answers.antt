-- `record::refusal::f64_at` meets its contract. Assumes nothing.
use Rattle.record.specs.Refusal.{f64_at}
use Rattle.record.proofs.refusal.f64_at.Goals as goal

pub returns : goal.returns
unfolding f64_at
returns c = c.float_at.ensures
