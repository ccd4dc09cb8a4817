-- `model::sound::has_flag` meets its contract: the code is the definition. Assumes nothing.
use mathlib.Core.Path.{refl}
use Rattle.model.specs.Sound.{has_flag}
use Rattle.model.proofs.sound.has_flag.Goals as goal

pub returns : goal.returns
unfolding has_flag
returns c = refl
