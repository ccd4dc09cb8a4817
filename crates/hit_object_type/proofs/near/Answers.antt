-- `hit_object_type::near` meets its contract: the sum of the squares is tested for its root. Assumes nothing.
use mathlib.Core.Path.{sym}
use lib.Ieee.{of_bits}
use Rattle.mania.specs.HitObject.{near}
use Rattle.hit_object_type.specs.Ruler.{sum_under_20}
use Rattle.hit_object_type.proofs.near.Goals as goal

pub returns : goal.returns
unfolding near of_bits
returns c = sym (sum_under_20 _ _)
