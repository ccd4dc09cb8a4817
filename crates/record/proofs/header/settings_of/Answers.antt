-- `record::header::settings_of` meets its contract: what its calls ensure, put together. Assumes nothing.
use Rattle.record.specs.Header.{settings_of}
use Rattle.record.proofs.header.settings_of.Goals as goal

pub returns : goal.returns
unfolding settings_of
returns c = simp (c.f64_at-multiplier.ensures, c.f32_at-ar.ensures, c.f32_at-od.ensures, c.f32_at-cs.ensures, c.f32_at-hp.ensures)
