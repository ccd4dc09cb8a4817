use lib.ListN.{length}
use Rattle.vectors.proofs.replay.Given as goal

abbrev pub decreases-loop-list : goal.decreases-loop-list
decreases-loop-list g l = length l.list
