use Rattle.notes.proofs.Columns.{row_in}
use Rattle.notes.proofs.Written.{Wrote}
use Rattle.notes.proofs.put_in_columns.Given as goal

abbrev pub invariant-loop-i : goal.invariant-loop-i
invariant-loop-i l = Wrote (row_in l.p) l.words l.initial.s l.s l.i
