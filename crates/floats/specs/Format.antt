-- Parts of an f64's bit pattern. src/format.rt has the same numbers. Assumes nothing.
use Rattle.std.specs.Prelude.{ℕ, ◌^◌}

-- the bit of the sign
abbrev pub sign_bit : ℕ
sign_bit = 2 ^ 63

-- the lowest bit of the exponent; below it stand the digits, but for the leading one, which is of this size
abbrev pub lead_bit : ℕ
lead_bit = 2 ^ 52

-- the pattern of infinity: the patterns below it are those of the finite numbers from 0 on
abbrev pub infinity : ℕ
infinity = 0x7ff0_0000_0000_0000
