use lib.ListN.{length}
use Rattle.hit_object_reader.proofs.Loops.{Counting}
use Rattle.hit_object_reader.proofs.check_lines.Given as goal

abbrev pub invariant-loop-rest : goal.invariant-loop-rest
invariant-loop-rest l = Counting l.deck.columns l.s l.last l.count l.rest

abbrev pub decreases-loop-rest : goal.decreases-loop-rest
decreases-loop-rest l = length l.rest
