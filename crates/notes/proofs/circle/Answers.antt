-- `notes::circle` meets its contract. Assumes nothing.
use mathlib.Core.Path.{refl}
use lib.Ieee.{round, of_bits}
use Rattle.mania.specs.Made.{circle}
use Rattle.notes.proofs.circle.Goals as goal

pub returns : goal.returns
unfolding circle round of_bits
returns c = refl
