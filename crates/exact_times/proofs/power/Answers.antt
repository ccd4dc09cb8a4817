-- `exact_times::power` meets its contract: the definition subtracts so too. Assumes nothing.
use Rattle.exact_times.specs.Digits.{power_of}
use Rattle.exact_times.proofs.power.Goals as goal

pub returns : goal.returns
unfolding power_of
returns c = c.saturating_sub.ensures
