-- `slider_times::distance_of` meets its contract. Assumes nothing.
use Rattle.std.specs.Prelude.{◌≡◌, refl, Option, None, Some, Float}
use Rattle.std.specs.Option.{unwrap_or}
use Rattle.std.proofs.Common.{◌∙◌}
use lib.Ieee.{round, of_bits}
use Rattle.mania.specs.Steps.{double}
use Rattle.mania.specs.PathObject.{distance_of}
use Rattle.slider_times.proofs.distance_of.Goals as goal

given : (distance : Option Float) → unwrap_or distance (double 0 1) ≡ distance_of distance
unfolding distance_of
given None = refl
given (Some d) = refl

pub returns : goal.returns
unfolding round of_bits
returns c = c.unwrap_or.ensures ∙ given c.args.distance
