use mathlib.Core.Path.{◌≡◌}
use mathlib.Core.List.{List, ◌++◌}
use Prim.Native.Nat.{ℕ, ◌+◌, ◌-◌}
use lib.ListN.{length}
use Rattle.chart.specs.Bytes.{be, splice}
use Rattle.chart.proofs.bytes.put.Given as goal

pub record Stored (s₀ : List ℕ) (at size value : ℕ) (s : List ℕ) (x i : ℕ) : Type 0 where
  pub tail : List ℕ
  pub wide : length tail ≡ size - i
  pub bytes : be size value ≡ be i x ++ tail
  pub is : s ≡ splice s₀ (at + i) tail

abbrev pub invariant-loop-i : goal.invariant-loop-i
invariant-loop-i l = Stored l.initial.s l.at l.size l.value l.s l.x l.i
