-- `walk::position_after` meets its contract. Assumes nothing.
use mathlib.Core.Logic.{inl, inr}
use lib.Ieee.{round, of_bits}
use Rattle.mania.specs.Convert.{position_after}
use Rattle.walk.proofs.position_after.Goals as goal

pub returns-in-Spinner : goal.returns-in-Spinner
unfolding position_after round of_bits
returns-in-Spinner c = elim c.in-Spinner.is [ inl (_, e) ↦ rw e | inr (_, e) ↦ rw e ]
