use mathlib.Core.Path.{◌≡◌}
use Prim.Native.Nat.{◌+◌}
use lib.ListN.{take, drop}
use Rattle.chart.specs.Bytes.{splice}
use Rattle.text.specs.Text.{digits}
use Rattle.text.proofs.put_digits.Given as goal

abbrev pub invariant-loop-i : goal.invariant-loop-i
invariant-loop-i l =
    record {
      stored : l.s ≡ splice l.initial.s (l.at + l.i) (drop l.i (digits l.base l.k l.n));
      left : digits l.base l.i l.rest ≡ take l.i (digits l.base l.k l.n);
    }
