-- `record_object::object_at` meets its contract: what its calls ensure, put together. Assumes nothing.
use Rattle.record.specs.Object.{read_object, start_at}
use Rattle.record_object.proofs.object_at.Goals as goal

pub returns : goal.returns
unfolding read_object start_at
returns c = simp (c.kind_by-kind.ensures, ← c.shape_at.ensures, c.f64_at-start.ensures, c.f32_at-y.ensures, c.f32_at-x.ensures, c.read_sound-sound.ensures)
