-- `hit_object_reader::rows::note_of` meets its contract. Assumes nothing.
use borrow.Author.Tests.{lt-ltb, le-ltb}
use Rattle.hit_object_lines.specs.Reading.{note_of_line}
use Rattle.hit_object_reader.proofs.rows.note_of.Goals as goal

pub returns-in-Circle-clause-value : goal.returns-in-Circle-clause-value
unfolding note_of_line
returns-in-Circle-clause-value c = rw (c.in-Circle.is, c.column_of.ensures.0, c.time_of.ensures)

pub returns-then-end-head-clause-value : goal.returns-then-end-head-clause-value
unfolding note_of_line
returns-then-end-head-clause-value c = rw (c.in-Hold.is, le-ltb _ _ c.if-end-head.true)

pub returns-else-end-head-clause-value : goal.returns-else-end-head-clause-value
unfolding note_of_line
returns-else-end-head-clause-value c = rw (c.in-Hold.is, lt-ltb _ _ c.if-end-head.false, c.column_of-in-Hold.ensures.0, c.time_of-in-Hold.ensures, c.time_of-in-Hold-2.ensures)
