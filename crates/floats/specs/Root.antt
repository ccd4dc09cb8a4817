-- The square root of a float, rounded to the nearest value of its format, ties to even, over whole numbers: the root is found, and rounded, by comparing squares.
use Rattle.std.specs.Prelude.{◌≡◌, ℕ, zero, suc, ◌+◌, ◌-◌, ◌*◌, ◌/◌, ◌%◌, ◌^◌, ◌<◌, ◌≤◌, Bool, false, cond, ◌&&◌, nat_le, nat_lt, Float}
use Prim.Native.Nat.{compare}
use Rattle.std.specs.Float.{nan, inf, fin, Format}
use Rattle.std.specs.Float.Ieee.{up, down, prec, low, size, nearest, units}
use Rattle.std.specs.Float.Ieee.Exact.{HasValue}

abbrev pub square : ℕ → ℕ
square r = r * r

-- the largest whole number whose square is at most n, for an n below the square of 2 ^ d: twice that of a quarter of n, or one more
unfoldable pub whole_root : ℕ → ℕ → ℕ
whole_root zero n = 0
whole_root (suc d) n = let r = 2 * whole_root d (n / 4) in cond (nat_le (square (r + 1)) n) (r + 1) r

-- binary digits of the root beyond the format's precision; a root has half as many digits as n
abbrev pub dropped : Format → ℕ → ℕ
dropped f n = (size n + 1) / 2 - prec f

abbrev pub leading : Format → ℕ → ℕ
leading f n = whole_root (prec f) (n / square (2 ^ dropped f n))

-- those that it keeps, rounded: the root lies from q to q + 1 times 2 ^ dropped, and twice the middle of the two is squared and compared with 4 n
abbrev pub rounded_root : Format → ℕ → ℕ
rounded_root f n = let q = leading f n in nearest q (compare (4 * n) (square ((2 * q + 1) * 2 ^ dropped f n)))

-- the value of the format f that is nearest to the root of n, with the sign s, in units of f's smallest value
unfoldable pub nearest_root : Format → Bool → ℕ → Float
unfolding size units whole_root
nearest_root f s n = units f s (rounded_root f n) (dropped f n)

-- The root of a value of the format f. A value of a units has the root of a * 2 ^ low f units. A number below 0 has none; that of -0 is -0, as IEEE 754 has it.
unfoldable pub root : Format → Float → Float
unfolding nearest_root
root f nan = nan
root f (inf s) = cond s nan (inf s)
root f (fin s m e) = cond (s && nat_lt 0 m) nan (nearest_root f s (m * up e * 2 ^ low f / down e * 2 ^ low f))

-- ---- what the root is, said without a way to find it: `root_nearest` of proofs/Laws/Roots proves it

-- b units are a value of the format, however large: its digits, at most `prec` of them, and zeros after them
pub record Value (f : Format) (b : ℕ) : Type 0 where
  pub digits : ℕ
  pub zeros : ℕ
  pub few : digits < 2 ^ prec f
  pub is : b ≡ digits * 2 ^ zeros

-- c units are the value nearest to the root of n, ties to even: the root is not beyond the middle between c and any other value b; and where it is the middle
-- of two neighbours h * 2 ^ j and (h + 1) * 2 ^ j, c is the even one. All is doubled: b + c is twice the middle, and 4 n the square of twice the root.
-- (Neighbours of fewer than `prec` digits are whole numbers, and twice their middle is odd, which no 4 n is the square of.)
pub record Nearest (f : Format) (n c : ℕ) : Type 0 where
  pub value : Value f c
  pub above : (b : ℕ) → Value f b → b < c → square (b + c) ≤ 4 * n
  pub below : (b : ℕ) → Value f b → c < b → 4 * n ≤ square (b + c)
  pub even : (h j : ℕ) → 2 ^ (prec f - 1) ≤ h → h < 2 ^ prec f → 4 * n ≡ square (h * 2 ^ j + suc h * 2 ^ j) → c ≡ (h + h % 2) * 2 ^ j

-- a finite float, the sign clear, that is nearest to the root of n
pub record IsNearest (f : Format) (n : ℕ) (r : Float) : Type 0 where
  pub size : ℕ
  pub has : HasValue r false size (2 ^ low f)
  pub near : Nearest f n size
