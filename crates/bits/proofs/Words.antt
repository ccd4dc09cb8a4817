-- A field of 64 bits by the nine bytes that hold it. Assumes nothing.
use mathlib.Core.Path.{◌≡◌, sym, ap, subst, ◌∙◌}
use Prim.Native.Nat.{ℕ, ◌+◌, ◌-◌, ◌*◌, ◌/◌, ◌%◌, ◌^◌, ◌≤◌, ◌<◌}
use mathlib.Core.List.{List}
use native.Mathlib.Nat.{add-zero, mod-eq_of_lt}
use native.Mathlib.Omega.{arith}
use lib.ListN.{get_or}
use lib.Pow.{pow-add, shl_lt, shr_lt}
use lib.Arith.{digits_lt, digits_mod}
use Rattle.bits.specs.Field.{bit, bits}
use Rattle.bits.specs.Laws.Fields.{bits_lt, bits_more, bits_split, bits_first}

first : (s : List ℕ) (i : ℕ) → 0 * 256 + get_or s i 0 / 1 % 256 ≡ bits s (8 * i) 8
unfolding bits
first s i = sym (bits_more s (8 * i) 0 i 0 8 (omega arith) (omega arith))

next : (s : List ℕ) (i k : ℕ) → bits s (8 * i) (8 * k) * 256 + get_or s (i + k) 0 / 1 % 256 ≡ bits s (8 * i) (8 * k + 8)
next s i k = sym (bits_more s (8 * i) (8 * k) (i + k) 0 8 (omega arith) (omega arith))

-- four bytes, one after the other
pub four : (s : List ℕ) (i a b c d : ℕ) → a ≡ 0 * 256 + get_or s i 0 / 1 % 256 → b ≡ a * 256 + get_or s (i + 1) 0 / 1 % 256 → c ≡ b * 256 + get_or s (i + 2) 0 / 1 % 256
    → d ≡ c * 256 + get_or s (i + 3) 0 / 1 % 256 → d ≡ bits s (8 * i) 32
four s i a b c d ha hb hc hd =
    hd
    ∙ (ap (λ (x : ℕ). x * 256 + get_or s (i + 3) 0 / 1 % 256)
    (hc
    ∙ (ap (λ (x : ℕ). x * 256 + get_or s (i + 2) 0 / 1 % 256)
    (hb ∙ (ap (λ (x : ℕ). x * 256 + get_or s (i + 1) 0 / 1 % 256) (ha ∙ first s i) ∙ next s i 1))
    ∙ next s i 2))
    ∙ next s i 3)

-- and four more
pub eight_are : (s : List ℕ) (i : ℕ) → bits s (8 * i) 32 * 4294967296 + bits s (8 * (i + 4)) 32 ≡ bits s (8 * i) 64
eight_are s i =
    let p : 8 * i + 32 ≡ 8 * (i + 4) = omega arith in
    sym (rw p at (bits_split s (8 * i) 32 32))

module _ (s : List ℕ) (i off : ℕ) (h : off ≤ 7) where
  -- what the eight bytes have of the field
  abbrev part : ℕ
  part = bits s (8 * i + off) (64 - off)

  part_lt : part * 2 ^ off < 2 ^ 64
  part_lt =
      let e : 64 - off + off ≡ 64 = omega arith in
      rw e at (shl_lt (64 - off) off (bits_lt s (8 * i + off) (64 - off)))

  -- the bits before it are shifted out
  pub shifted_is : (bits s (8 * i) 64 * 2 ^ off) % 2 ^ 64 ≡ part * 2 ^ off
  shifted_is =
      let e : off + (64 - off) ≡ 64 = omega arith in
      let f : 2 ^ (64 - off) * 2 ^ off ≡ 2 ^ 64 = let g : 64 - off + off ≡ 64 = omega arith in rw (← pow-add, g) in
      let g : bits s (8 * i) 64 * 2 ^ off ≡ bits s (8 * i) off * 2 ^ 64 + part * 2 ^ off = scaled (bits s (8 * i) 64) (bits s (8 * i) off) part (2 ^ (64 - off)) (2 ^ off) (2 ^ 64) (rw e at (bits_split s (8 * i) off (64 - off))) f in
      rw g (digits_mod (bits s (8 * i) off) part_lt)
    where
      scaled : (x a b p q r : ℕ) → x ≡ a * p + b → p * q ≡ r → x * q ≡ a * r + b * q
      scaled x a b p q r e f = omega (arith, ap (λ (z : ℕ). z * q) e, ap (λ (z : ℕ). a * z) f)

  -- with the first bits of the ninth byte, it is whole
  pub word_is : (b : ℕ) → b ≡ get_or s (i + 8) 0 / 2 ^ (8 - off) → b < 2 ^ off → part * 2 ^ off + b ≡ bits s (8 * i + off) 64
  word_is b e l =
      let f : 64 - off + off ≡ 64 = omega arith in
      let m : b ≡ get_or s (i + 8) 0 / 2 ^ (8 - off) % 2 ^ off = sym (mod-eq_of_lt l) ∙ ap (λ (z : ℕ). z % 2 ^ off) e in
      rw m (sym (rw f at (bits_more s (8 * i + off) (64 - off) (i + 8) 0 off (omega arith) (omega arith))))

  pub word_lt : (b : ℕ) → b < 2 ^ off → part * 2 ^ off + b < 2 ^ 64
  word_lt b l =
      let f : 2 ^ (64 - off) * 2 ^ off ≡ 2 ^ 64 = let g : 64 - off + off ≡ 64 = omega arith in rw (← pow-add, g) in
      subst (λ (n : ℕ). part * 2 ^ off + b < n) f (digits_lt (bits_lt s (8 * i + off) (64 - off)) l)

-- a field of at most 64 bits
pub field_is : (s : List ℕ) (p w : ℕ) → w ≤ 64 → bits s (8 * (p / 8) + p % 8) 64 / 2 ^ (64 - w) ≡ bits s p w
field_is s p w h =
    let e : 8 * (p / 8) + p % 8 ≡ p = omega arith in
    let f : w + (64 - w) ≡ 64 = omega arith in
    rw e (rw f at (bits_first s p w (64 - w)))

-- a field of one bit
pub flag_is : (s : List ℕ) (p : ℕ) → get_or s (p / 8) 0 / 2 ^ (7 - p % 8) % 2 ≡ bits s p 1
unfolding bits bit
flag_is s p = rw add-zero (omega arith)

-- the first k bits of a byte
pub first_lt : (b k : ℕ) → b < 256 → k ≤ 8 → b / 2 ^ (8 - k) < 2 ^ k
first_lt b k h l =
    let e : k + (8 - k) ≡ 8 = omega arith in
    shr_lt k (8 - k) (rw e h)
