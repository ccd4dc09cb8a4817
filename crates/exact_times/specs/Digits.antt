-- A time's bit pattern as a whole number times a power of two.
-- Assumes nothing.
use Rattle.std.specs.Prelude.{cond, ◌⊎◌, ℕ, ◌+◌, ◌-◌, ◌/◌, ◌%◌, ◌^◌, ◌≤◌, ◌<◌, ltb}

-- the number: 53 bits, of which the highest is not written, but for the smallest times
unfoldable pub digits_of : ℕ → ℕ
digits_of b = cond (ltb b (2 ^ 52)) b (2 ^ 52 + b % 2 ^ 52)

-- the power of two
unfoldable pub power_of : ℕ → ℕ
power_of b = b / 2 ^ 52 - 1

-- of m * 2 ^ e: m has at most 53 bits, and all of them where e is 2 or more
pub record Number (m e : ℕ) : Type 0 where
  pub few : m < 2 ^ 53
  pub full : (e ≤ 1) ⊎ (2 ^ 52 ≤ m)
