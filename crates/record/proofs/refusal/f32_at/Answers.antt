-- `record::refusal::f32_at` meets its contract. Assumes nothing.
use Rattle.record.specs.Refusal.{f32_at}
use Rattle.record.proofs.refusal.f32_at.Goals as goal

pub returns : goal.returns
unfolding f32_at
returns c = c.float_at.ensures
