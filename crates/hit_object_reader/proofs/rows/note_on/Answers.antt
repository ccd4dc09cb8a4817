-- `hit_object_reader::rows::note_on` meets its contract. Assumes nothing.
use Rattle.std.proofs.Common.{sym}
use Rattle.hit_object_reader.specs.Told.{line_of}
use Rattle.hit_object_reader.specs.Laws.Rows.{row_none, row_short, row_is}
use Rattle.hit_object_reader.proofs.rows.note_on.Goals as goal

pub returns-in_err-line-clause-value : goal.returns-in_err-line-clause-value
returns-in_err-line-clause-value c = rw c.from_residual.ensures (row_none c.args.deck.columns c.args.s.now (sym c.in_err-line.ensures.value))

pub returns-in_err-note_of-clause-value : goal.returns-in_err-note_of-clause-value
returns-in_err-note_of-clause-value c =
    let g = c.in_ok-line in
    rw c.from_residual-in_err-note_of.ensures (row_short c.args.deck.columns c.args.s.now (line_of g.line) g.rest.now (sym g.ensures.value) (sym c.in_err-note_of.ensures.value))

pub returns-clause-value : goal.returns-clause-value
returns-clause-value c =
    let g = c.in_ok-line in
    row_is c.args.deck.columns c.args.s.now (line_of g.line) g.rest.now (sym g.ensures.value) _ (sym c.in_ok-note_of.ensures.value)
