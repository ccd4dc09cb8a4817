-- `record::section::total_break_time` meets its contract. The loop's invariant: the whole sum is that of the breaks left, from the sum so far. Assumes nothing.
use Rattle.std.proofs.Common.{◌≡◌, add-one}
use native.Mathlib.Nat.{sub-zero}
use Prim.Native.Nat.{ℕ, ◌+◌, ◌-◌}
use mathlib.Core.List.{List}
use native.Mathlib.Omega.{arith}
use lib.Ieee.{Float, binary64, add, sub, round, size, span, climb, units, odd, of_bits, of_fields}
use Rattle.model.specs.Totals.{break_time}
use Rattle.record.specs.Layout as At
use Rattle.record.specs.Refusal.{entries, f64_at}
use Rattle.record.specs.Section.{breaks, read_break}
use Rattle.record.proofs.section.total_break_time.Goals as goal

pub loop-init : goal.loop-init
unfolding round size span climb units odd of_bits of_fields
loop-init c = record { place = omega arith; rest = rw sub-zero }

break-next : (s : List ℕ) (p n m : ℕ) (sum : Float) → n ≡ m + 1
    → break_time sum (breaks s p n) ≡ break_time (add binary64 sum (sub binary64 (f64_at s (p + At.second)) (f64_at s p))) (breaks s (p + At.entry) m)
unfolding breaks break_time read_break entries
break-next s p n m sum h = rw (h, add-one)

pub loop-preserved : goal.loop-preserved
loop-preserved c =
    record {
      place = omega arith;
      rest = rw (c.loop.invariant.rest, c.f64_at-start.ensures, c.f64_at-end.ensures) (break-next _ _ _ _ _ (omega arith));
    }

pub returns : goal.returns
unfolding break_time breaks entries
returns c =
    let none : c.args.list.count - c.loop.counter ≡ 0 = omega arith in
    rw (c.loop.invariant.rest, none)
