-- `walk::none_in_force` meets its contract. Assumes nothing.
use Rattle.points.specs.Lasting.{lasts_never}
use Rattle.walk.proofs.none_in_force.Goals as goal

pub returns : goal.returns
returns c = λ bytes g. record { beat = lasts_never _ _ _ _ _; velocity = lasts_never _ _ _ _ _; kiai = lasts_never _ _ _ _ _ }
