-- `job_reader::first_start` meets its contract. Assumes nothing.
use Prim.Native.Nat.{◌<◌}
use lib.Ieee.{round, size, span, climb, units, odd, of_bits, of_fields}
use native.Mathlib.Omega.{arith}
use Rattle.model.specs.Totals.{first_start}
use Rattle.record.specs.Refusal.{entries}
use Rattle.record.specs.Object.{objects, read_object, start_at}
use Rattle.record.specs.Laws.Objects.{objects_cons}
use Rattle.job_reader.proofs.first_start.Goals as goal

pub returns-then-list-eq0 : goal.returns-then-list-eq0
unfolding first_start objects entries round size span climb units odd of_bits of_fields
returns-then-list-eq0 c = rw c.if-list-eq0.true

pub returns : goal.returns
unfolding first_start read_object start_at
returns c =
    let some : 0 < c.args.list.count = omega arith in
    rw (objects_cons _ _ _ some, c.f64_at.ensures)
