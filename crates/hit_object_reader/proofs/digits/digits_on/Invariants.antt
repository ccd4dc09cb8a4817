use mathlib.Core.Path.{◌≡◌}
use Prim.Native.Nat.{◌+◌, ◌≤◌}
use lib.ListN.{length}
use Rattle.model.specs.Limits.{latest_end}
use Rattle.hit_object_lines.specs.Reading.{digits_on}
use Rattle.hit_object_reader.proofs.digits.digits_on.Given as goal

abbrev pub invariant-loop-c : goal.invariant-loop-c
invariant-loop-c l = record { few : l.value ≤ latest_end + 1; left : length l.rest ≤ length l.s; same : digits_on l.first l.s ≡ digits_on l.value l.rest }

abbrev pub decreases-loop-c : goal.decreases-loop-c
decreases-loop-c l = length l.rest
