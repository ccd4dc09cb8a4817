-- `slider_notes::note_of` meets its contract. Assumes nothing.
use lib.Ieee.{round, of_bits}
use borrow.Author.Tests.{eq-eqb, ne_eqb}
use Rattle.mania.specs.Made.{circle}
use Rattle.mania.specs.PathObject.{note_of}
use Rattle.slider_notes.specs.Words.{of_word, note_of_word}
use Rattle.slider_notes.proofs.note_of.Goals as goal

pub returns-then-start-end : goal.returns-then-start-end
unfolding note_of_word of_word note_of circle round of_bits
returns-then-start-end c = rw (← c.column_of-column.ensures, ← c.start_of-start.ensures, ← c.end_of-end.ensures, eq-eqb _ _ c.if-start-end.true)

pub returns : goal.returns
unfolding note_of_word of_word note_of
returns c = rw (← c.column_of-column.ensures, ← c.start_of-start.ensures, ← c.end_of-end.ensures, ne_eqb _ _ c.if-start-end.false)
