use lib.ListN.{length}
use Rattle.hit_object_reader.proofs.Loops.{Storing}
use Rattle.hit_object_reader.proofs.put_notes.Given as goal

abbrev pub invariant-loop-note : goal.invariant-loop-note
invariant-loop-note l = Storing l.deck.columns l.s l.initial.chart l.chart l.i l.rest

abbrev pub decreases-loop-note : goal.decreases-loop-note
decreases-loop-note l = length l.rest
