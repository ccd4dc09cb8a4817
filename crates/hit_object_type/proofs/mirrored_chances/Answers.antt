-- `hit_object_type::mirrored_chances` meets its contract. Assumes nothing.
use native.Mathlib.Omega.{arith}
use lib.Ieee.{round, of_bits}
use borrow.Author.Tests.{ne_eqb}
use Rattle.mania.specs.HitObject.{mirrored_chances}
use Rattle.hit_object_type.proofs.mirrored_chances.Goals as goal

pub returns-in-2 : goal.returns-in-2
unfolding mirrored_chances round of_bits
returns-in-2 c = rw c.in-2.is

pub returns-in-3 : goal.returns-in-3
unfolding mirrored_chances round of_bits
returns-in-3 c = rw (c.in-3.is, c.min.ensures)

pub returns-in-4 : goal.returns-in-4
unfolding mirrored_chances round of_bits
returns-in-4 c = rw (c.in-4.is, c.halved.ensures)

pub returns-in-5 : goal.returns-in-5
unfolding mirrored_chances round of_bits
returns-in-5 c = rw (c.in-5.is, c.min-in-5.ensures)

pub returns-in-6 : goal.returns-in-6
unfolding mirrored_chances round of_bits
returns-in-6 c = rw (c.in-6.is, c.halved-in-6.ensures, c.halved-in-6-2.ensures)

pub returns-in_default : goal.returns-in_default
unfolding mirrored_chances
returns-in_default c =
    let n = c.args.columns in
    rw (ne_eqb n 2 (omega arith), ne_eqb n 3 (omega arith), ne_eqb n 4 (omega arith), ne_eqb n 5 (omega arith), ne_eqb n 6 (omega arith))
