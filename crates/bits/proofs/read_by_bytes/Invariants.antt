use Rattle.std.specs.Prelude.{◌≡◌, ◌*◌, ◌-◌, min}
use Rattle.bits.specs.Field.{bits}
use Rattle.bits.proofs.read_by_bytes.Given as goal

abbrev pub invariant-loop-i : goal.invariant-loop-i
invariant-loop-i l = l.v ≡ bits l.s l.at (min (8 * l.i - l.at) l.width)
