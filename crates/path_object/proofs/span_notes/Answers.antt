-- `path_object::span_notes` meets its contract. Assumes nothing.
use borrow.Author.Tests.{lt-leb, le-leb}
use Rattle.path_object.proofs.span_notes.Goals as goal

pub returns-then-length-ge80 : goal.returns-then-length-ge80
returns-then-length-ge80 c = rw (le-leb _ _ c.if-length-ge80.true)

pub returns-else-length-ge80 : goal.returns-else-length-ge80
returns-else-length-ge80 c = rw (lt-leb _ _ c.if-length-ge80.false)
