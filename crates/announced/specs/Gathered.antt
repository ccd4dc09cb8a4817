-- The column counts of n whole ods, from `low` on, with cs at either of two ends: a bit for each. Assumes nothing.
use Rattle.std.specs.Prelude.{◌≡◌}
use Rattle.std.proofs.Math.Path.{ap}
use Rattle.std.proofs.Common.{◌∙◌, add-sub_of_le}
use Prim.Native.Nat.{ℕ, zero, suc, ◌+◌, ◌-◌, ◌^◌, ◌≤◌}
use Rattle.std.proofs.Math.Nat.{sub_self}
use native.Mathlib.Omega.{arith}
use Rattle.std.specs.Int.Bits.{bit_or}
use Rattle.mania.specs.Convert.{columns_at}

unfoldable pub gathered : ℕ → ℕ → ℕ → ℕ → ℕ → ℕ → ℕ
gathered long objects cs_low cs_high low zero = 0
gathered long objects cs_low cs_high low (suc n) =
    bit_or (bit_or (gathered long objects cs_low cs_high low n) (2 ^ columns_at long objects cs_low (low + n))) (2 ^ columns_at long objects cs_high (low + n))

module _ (long objects low high from : ℕ) where
  pub gathered_none : 0 ≡ gathered long objects low high from (from - from)
  unfolding gathered
  gathered_none = rw (sub_self from)

  -- one od more
  pub gathered_next : (od : ℕ) → from ≤ od
      → gathered long objects low high from (od + 1 - from)
      ≡ bit_or (bit_or (gathered long objects low high from (od - from)) (2 ^ columns_at long objects low od)) (2 ^ columns_at long objects high od)
  unfolding gathered
  gathered_next od h =
      ap (gathered long objects low high from) (one_more od from h)
      ∙ ap (λ (z : ℕ). bit_or (bit_or (gathered long objects low high from (od - from)) (2 ^ columns_at long objects low z)) (2 ^ columns_at long objects high z)) (add-sub_of_le h)
    where
      one_more : (i j : ℕ) → j ≤ i → i + 1 - j ≡ suc (i - j)
      one_more i j h = omega arith
