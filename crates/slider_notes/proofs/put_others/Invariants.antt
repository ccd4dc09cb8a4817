use Rattle.std.specs.Prelude.{length}
use Rattle.slider_notes.proofs.Order.{OthersAt}
use Rattle.slider_notes.proofs.put_others.Given as goal

abbrev pub invariant-loop-w : goal.invariant-loop-w
invariant-loop-w l = OthersAt l.src (length l.src) l.end l.initial.dst l.dst l.w-index l.k
