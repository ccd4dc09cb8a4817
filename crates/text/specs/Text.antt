-- Numbers and words as text, in ASCII codes.
-- Assumes nothing.
use Rattle.std.specs.Prelude.{Bool, true, false, cond, List, [], ◌∷◌, ◌++◌, ℕ, zero, suc, ◌+◌, ◌-◌, ◌/◌, ◌%◌, ltb, length, replicate}
use Prim.Native.Char.{code}
use Prim.Native.String.{String, [] as []ᵗ, ◌∷◌ as ◌∷ᵗ◌}

-- the codes of a word
unfoldable pub ascii : String → List ℕ
ascii []ᵗ = []
ascii (c ∷ᵗ t) = code c ∷ ascii t

-- ---- numbers

-- the code of a digit below 16: 0 to 9, then A to F
unfoldable pub digit : ℕ → ℕ
digit d = cond (ltb d 10) (48 + d) (55 + d)

-- the last k digits of n in a base, the most significant first
unfoldable pub digits : ℕ → ℕ → ℕ → List ℕ
digits base zero n = []
digits base (suc k) n = digits base k (n / base) ++ (digit (n % base) ∷ [])

-- how many decimal digits n has, if they are k + 1 at most; the test tells whether it has one
unfoldable pub places : ℕ → Bool → ℕ → ℕ
places zero t n = 1
places (suc k) true n = 1
places (suc k) false n = places k (ltb (n / 10) 10) (n / 10) + 1

-- a number's decimal digits without leading zeros: n has n + 1 digits at most
unfoldable pub decimal : ℕ → List ℕ
decimal n = digits 10 (places n (ltb n 10) n) n

-- the bit pattern of an f64
unfoldable pub hex : ℕ → List ℕ
hex bits = digits 16 16 bits

-- ---- places

abbrev pub space : ℕ
space = code " "

-- a number, right-aligned in so many places
unfoldable pub right : ℕ → ℕ → List ℕ
right width n = replicate (width - length (decimal n)) space ++ decimal n

-- a text, with spaces behind it up to so many places
unfoldable pub left : ℕ → List ℕ → List ℕ
left width t = t ++ replicate (width - length t) space

-- ---- words

-- a word, and a number after it
unfoldable pub named : List ℕ → ℕ → List ℕ
named word n = word ++ decimal n

-- a word, and a bit pattern after it
unfoldable pub with_hex : List ℕ → ℕ → List ℕ
with_hex word bits = word ++ hex bits
