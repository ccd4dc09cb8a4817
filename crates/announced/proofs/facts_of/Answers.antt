-- `announced::facts_of` meets its contract. Assumes nothing.
use mathlib.Core.Path.{refl}
use lib.Ieee.{round, of_bits}
use Rattle.announced.specs.Announced.{facts_of}
use Rattle.announced.proofs.facts_of.Goals as goal

pub returns : goal.returns
unfolding facts_of round of_bits
returns c = refl
