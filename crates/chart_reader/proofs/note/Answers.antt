-- `chart_reader::note` meets its contract. The test is whether the note's bytes are there.
-- Assumes nothing.
use borrow.Author.Tests.{lt-leb, le-leb}
use Rattle.chart.specs.Chart.{note_by}
use Rattle.chart.specs.Laws.Reader.{note_short}
use Rattle.chart_reader.proofs.note.Goals as goal

pub returns-then-chart-lt-HEADER_SIZE : goal.returns-then-chart-lt-HEADER_SIZE
returns-then-chart-lt-HEADER_SIZE c = note_short _ _ c.if-chart-lt-HEADER_SIZE.true

pub returns-then-at-note_size : goal.returns-then-at-note_size
unfolding note_by
returns-then-at-note_size c =
    rw (lt-leb _ _ (rw (c.note_size.ensures.0, c.place-at.ensures.0, c.version_of-version.ensures) at c.if-at-note_size.true))

pub returns : goal.returns
unfolding note_by
returns c =
    let place = c.place-at.ensures.0 in
    rw (le-leb _ _ (rw (c.note_size.ensures.0, place, c.version_of-version.ensures) at c.if-at-note_size.false), c.note_in.ensures, place, c.version_of-version.ensures)
