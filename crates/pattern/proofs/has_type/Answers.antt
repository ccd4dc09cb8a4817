-- `pattern::has_type` meets its contract: the code is the definition. Assumes nothing.
use mathlib.Core.Path.{refl}
use Rattle.mania.specs.PatternType.{contains}
use Rattle.pattern.proofs.has_type.Goals as goal

pub returns : goal.returns
unfolding contains
returns c = refl
