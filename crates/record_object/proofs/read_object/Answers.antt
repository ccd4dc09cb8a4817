-- `record_object::read_object` meets its contract: what its calls ensure, put together. Assumes nothing.
use Rattle.record.specs.Object.{read_at}
use Rattle.record_object.proofs.read_object.Goals as goal

pub returns : goal.returns
unfolding read_at
returns c = (rw (c.object_at-object.ensures, c.object_end-next.ensures.0), c.object_end-next.ensures.1)
