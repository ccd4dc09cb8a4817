-- `notes::put_in_columns` meets its contract. The loop's invariant: the first i rows are written. Assumes nothing.
use mathlib.Core.Path.{ap, ◌∙◌}
use native.Mathlib.Omega.{arith}
use Rattle.notes.proofs.Columns.{row_in, row_is}
use Rattle.notes.proofs.Written.{none_yet, put_next, all_written}
use Rattle.notes.proofs.put_in_columns.Goals as goal

pub loop-i-init : goal.loop-i-init
loop-i-init c = none_yet _ _ _ (omega arith)

pub put_note-requires : goal.put_note-requires
put_note-requires c = omega arith

pub loop-i-preserved : goal.loop-i-preserved
loop-i-preserved c =
    let loop = c.loop-i in
    put_next _ _ _ _ _ loop.invariant (omega arith) (rw (c.column_of.ensures, c.pinned.ensures, c.pinned-in-loop-i.ensures)) c.put_note.ensures

pub returns : goal.returns
returns c =
    all_written _ _ _ _ _ _ _ c.loop-i.invariant c.loop-i-test.false (ap row_in c.pattern_of-p.ensures ∙ row_is _ _)
