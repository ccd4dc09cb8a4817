use Rattle.std.specs.Prelude.{length}
use Rattle.slider_notes.proofs.Order.{EndingAt}
use Rattle.slider_notes.proofs.put_ending.Given as goal

abbrev pub invariant-loop-w : goal.invariant-loop-w
invariant-loop-w l = EndingAt l.src (length l.src) l.end l.initial.dst l.initial.p l.dst l.p l.w-index
