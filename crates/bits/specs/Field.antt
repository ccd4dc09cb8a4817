-- The number that some bits of a byte list spell, most significant bit first. Bit 0 is the highest bit of byte 0, and bits
-- past the end are 0, so that a field has a value before it is known to be whole. Assumes nothing.
use Rattle.std.specs.Prelude.{ℕ, zero, suc, ◌+◌, ◌-◌, ◌*◌, ◌/◌, ◌%◌, ◌^◌, List, Bool, get_or, length, ltb}

-- bit p of the bytes s
unfoldable pub bit : List ℕ → ℕ → ℕ
bit s p = get_or s (p / 8) 0 / 2 ^ (7 - p % 8) % 2

-- the n bits from bit p on, as one number
unfoldable pub bits : List ℕ → ℕ → ℕ → ℕ
unfolding bit
bits s p zero = 0
bits s p (suc n) = bits s p n * 2 + bit s (p + n)

-- the bytes s end before bit `end`
unfoldable pub short : List ℕ → ℕ → Bool
short s end = ltb (8 * length s) end
