-- `chart::bytes::get3` meets its contract: the bytes that were read are those of `num 3`.
-- Assumes nothing.
use native.Mathlib.Nat.{add-zero}
use native.Mathlib.Omega.{arith}
use lib.Seq.{get_or-drop}
use Rattle.chart.specs.Bytes.{num}
use Rattle.chart.proofs.bytes.get3.Goals as goal

pub returns : goal.returns
unfolding num
returns c = (simp (get_or-drop, add-zero) (omega arith), omega arith)
