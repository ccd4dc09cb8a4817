-- `record_object::scan_objects` meets its contract. The loop's invariant: the whole list's answers are those of the objects left. Assumes nothing.
use Rattle.std.proofs.Common.{◌≡◌, ◌+◌, ap, ◌∙◌}
use Rattle.std.proofs.lemmas.Result.{err_from_is_err_and}
use Rattle.std.specs.Int.{from_bool}
use native.Mathlib.Nat.{sub-zero}
use native.Mathlib.Omega.{arith}
use lib.Ieee.{round, size, span, climb, units, odd, of_bits, of_fields}
use Rattle.bits.specs.Field.{bits}
use Rattle.record.specs.Object.{start_at, zero_start}
use Rattle.record.specs.Post.{is_long}
use Rattle.record_object.proofs.Scans.{all_left, left_stop, left_next, left_none, long_value, long_le}
use Rattle.record_object.proofs.scan_objects.Goals as goal

pub loop-init : goal.loop-init
unfolding zero_start round size span climb units odd of_bits of_fields
loop-init c = record { place = omega arith; few = omega arith; left = rw sub-zero (all_left _ _ _) }

pub returns-in_err-object_refusal : goal.returns-in_err-object_refusal
returns-in_err-object_refusal c =
    let p = err_from_is_err_and c.from_residual.result c.from_residual.ensures.1 in
    rw (p.1, p.2) (left_stop _ _ _ _ _ _ _ c.loop.invariant.left _ (omega arith) c.in_err-object_refusal.ensures, omega arith)

pub loop-preserved : goal.loop-preserved
unfolding start_at
loop-preserved c =
    let added : c.from-long.result ≡ is_long (bits c.args.list.s.now c.loop.here 2) = c.from-long.ensures ∙ (ap from_bool c.is_long.ensures ∙ long_value _ _ c.shape_at.ensures) in
    let few = rw (← added) at (long_le (bits c.args.list.s.now c.loop.here 2)) in
    record {
      place = omega arith;
      few = omega arith;
      left = rw (c.f64_at-last.ensures, c.object_end-here.ensures.0) (left_next _ _ _ _ _ _ _ c.loop.invariant.left _ _ (omega arith) c.in_ok-object_refusal.ensures (ap (λ n. c.loop.long + n) added));
    }

pub returns : goal.returns
returns c = (left_none _ _ _ _ _ _ _ c.loop.invariant.left (omega arith), omega arith)
