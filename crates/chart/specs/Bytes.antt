-- Numbers in bytes, the highest byte first, and bytes put into a list of bytes.
-- Assumes nothing.
use Rattle.std.specs.Prelude.{List, [], ◌∷◌, ◌++◌, ℕ, zero, suc, ◌+◌, ◌*◌, ◌/◌, ◌%◌, ◌<◌, length, get_or, take, drop}

-- each element is a byte
unfoldable pub Bytes : List ℕ → Type 0
Bytes s = (i : ℕ) → get_or s i 0 < 256

-- the k bytes of a number
unfoldable pub be : ℕ → ℕ → List ℕ
be zero x = []
be (suc k) x = be k (x / 256) ++ (x % 256 ∷ [])

-- the number in the first k bytes
unfoldable pub num : ℕ → List ℕ → ℕ
num zero s = 0
num (suc k) s = num k s * 256 + get_or s k 0

-- s with the bytes of v from index i on in place of its own; the bytes before and after keep their values
unfoldable pub splice : List ℕ → ℕ → List ℕ → List ℕ
splice s i v = take i s ++ (v ++ drop (i + length v) s)
