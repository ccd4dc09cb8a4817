-- A value in a range, as a fraction: from 0 to n, or at least 1 / k. Assumes nothing.
use Rattle.std.specs.Prelude.{◌≡◌, ℕ, ◌*◌, ◌<◌, ◌≤◌, false, T, Float}
use Rattle.std.proofs.Common.{ap, le_of_mul-le-mul_right, mul-le-mul_left, arith}
use Rattle.std.specs.Float.Ieee.Exact.{HasValue}
use Rattle.std.specs.Float.Ieee.Positive.{num, den, den_pos, value→cross}
use Rattle.floats.specs.Range.{in_range}
use Rattle.floats.specs.Laws.Values.{Sized, sized, UpTo}
use Rattle.floats.specs.Laws.Ranges.{in_sized, in_low, in_high}

-- at least 1 / k
pub record AtLeast (k : ℕ) (x : Float) : Type 0 where
  pub size : Sized x
  pub low : den x ≤ k * num x

most : (N D H E n : ℕ) → 0 < E → H * 1 ≡ n * E → N * E ≤ H * D → N ≤ n * D
most N D H E n e v h =
    let z : N * E ≤ n * D * E = omega (arith, ap (λ (z : ℕ). z * D) v) in
    le_of_mul-le-mul_right z e

-- a range that ends at n
pub up_to : (n : ℕ) (lo hi x : Float) → Sized lo → HasValue hi false n 1 → T (in_range lo hi x) → UpTo n x
up_to n lo hi x v w h =
    let z = sized hi n 1 w in
    record {
      size = in_sized lo hi x v z h;
      high = most (num x) (den x) (num hi) (den hi) n (den_pos hi) (value→cross hi n 1 w) (in_high lo hi x v z h);
    }

least : (N D L E k : ℕ) → 0 < E → E ≤ k * L → L * D ≤ N * E → D ≤ k * N
least N D L E k e v h =
    let z : D * E ≤ k * N * E = omega (arith, mul-le-mul_left D v, mul-le-mul_left k h) in
    le_of_mul-le-mul_right z e

-- a range that starts at 1 / k or above
pub at_least : (k : ℕ) (lo hi x : Float) → AtLeast k lo → Sized hi → T (in_range lo hi x) → AtLeast k x
at_least k lo hi x v w h =
    record {
      size = in_sized lo hi x v.size w h;
      low = least (num x) (den x) (num lo) (den lo) k (den_pos lo) v.low (in_low lo hi x v.size w h);
    }
