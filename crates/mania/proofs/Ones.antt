-- The ones of a mask, and its columns above column 0. Assumes nothing.
use mathlib.Core.Path.{◌≡◌, refl, sym, ap, ◌∙◌}
use mathlib.Core.Logic.{◌⊎◌, ⊎_elim}
use Prim.Native.Nat.{ℕ, zero, suc, ◌+◌, ◌*◌, ◌/◌, ◌%◌, ◌^◌, ◌≤◌, ◌<◌, max}
use native.Mathlib.Nat.{div-div-eq-div-mul, div-eq_of_lt, div-one, mod-lt, mul_comm, pow-suc}
use native.Mathlib.Omega.{arith}
use mathlib.Core.List.{List, [], ◌∷◌, ◌++◌}
use lib.Bits.{bit_or, or_step, or_zero_r}
use lib.Count.{ones, ones_step}
use lib.Pow.{pow_mono, pow_pos}
use Rattle.mania.specs.Made.{Made}
use Rattle.mania.proofs.Masks.{bit, or_left, or_own}

-- ---- how many

-- a column more is one more, unless the mask has it
pub ones_or : (mask c : ℕ) → ones (bit_or mask (2 ^ c)) + bit mask c ≡ ones mask + 1
ones_or mask zero = first (bit_or mask 1) (or_step mask 1 ∙ ap (λ (h : ℕ). h * 2 + max (mask % 2) 1) (or_zero_r (mask / 2)))
  where
    first : (n : ℕ) → n ≡ mask / 2 * 2 + max (mask % 2) 1 → ones n + bit mask 0 ≡ ones mask + 1
    first n e = omega (arith, ones_step n, ones_step mask, ap ones (half e), ap (λ (m : ℕ). m % 2) (div-one mask), mod-lt mask (pow_pos 1))
      where
        half : n ≡ mask / 2 * 2 + max (mask % 2) 1 → n / 2 ≡ mask / 2
        half e = omega arith
ones_or mask (suc c) =
    let even : 2 ^ suc c % 2 ≡ 0 = omega (arith, pow-suc 2 c) in
    let half : 2 ^ suc c / 2 ≡ 2 ^ c = omega (arith, pow-suc 2 c) in
    next (bit_or mask (2 ^ suc c)) (bit_or (mask / 2) (2 ^ suc c / 2)) (2 ^ suc c % 2) (or_step mask (2 ^ suc c)) even (ap (bit_or (mask / 2)) half) (ones_or (mask / 2) c)
  where
    own : bit mask (suc c) ≡ bit (mask / 2) c
    own = ap (λ (n : ℕ). n % 2) (ap (λ (n : ℕ). mask / n) (pow-suc 2 c ∙ mul_comm (2 ^ c) 2) ∙ sym (div-div-eq-div-mul mask 2 (2 ^ c)))

    next : (n h p : ℕ) → n ≡ h * 2 + max (mask % 2) p → p ≡ 0 → h ≡ bit_or (mask / 2) (2 ^ c)
        → ones (bit_or (mask / 2) (2 ^ c)) + bit (mask / 2) c ≡ ones (mask / 2) + 1 → ones n + bit mask (suc c) ≡ ones mask + 1
    next n h p e z f r = omega (arith, ones_step n, ones_step mask, ap ones (halved e z ∙ f), low e z, own)
      where
        halved : n ≡ h * 2 + max (mask % 2) p → p ≡ 0 → n / 2 ≡ h
        halved e z = omega arith

        low : n ≡ h * 2 + max (mask % 2) p → p ≡ 0 → n % 2 ≡ mask % 2
        low e z = omega arith

-- at most one more
pub ones_put : (mask c : ℕ) → ones (bit_or mask (2 ^ c)) ≤ ones mask + 1
ones_put mask c = omega (arith, ones_or mask c)

-- ---- the mask of some notes

-- a mask with their columns added
unfoldable pub mask_from : {A : Type 0} → (A → ℕ) → ℕ → List A → ℕ
mask_from column mask [] = mask
mask_from column mask (x ∷ xs) = mask_from column (bit_or mask (2 ^ column x)) xs

pub mask_snoc : {A : Type 0} (column : A → ℕ) (mask : ℕ) (xs : List A) (x : A)
    → mask_from column mask (xs ++ x ∷ []) ≡ bit_or (mask_from column mask xs) (2 ^ column x)
unfolding mask_from
mask_snoc column mask [] x = refl
mask_snoc column mask (y ∷ ys) x = mask_snoc column (bit_or mask (2 ^ column y)) ys x

-- a mask without ones is empty
pub no_ones : (k mask : ℕ) → mask < 2 ^ k → ones mask ≡ 0 → mask ≡ 0
no_ones zero mask l h = omega arith
no_ones (suc k) mask l h =
    let none : ones (mask / 2) ≡ 0 = omega (arith, ones_step mask) in
    let half : mask / 2 ≡ 0 = no_ones k (mask / 2) (omega (arith, pow-suc 2 k)) none in
    omega (arith, ones_step mask)

-- one column, and it is column 0
pub alone_0 : (k mask : ℕ) → mask < 2 ^ k → ones mask ≡ 1 → bit mask 0 ≡ 1 → mask ≡ 1
alone_0 k mask l h b =
    let odd : mask % 2 ≡ 1 = ap (λ (n : ℕ). n % 2) (sym (div-one mask)) ∙ b in
    let none : ones (mask / 2) ≡ 0 = omega (arith, ones_step mask) in
    let half : mask / 2 ≡ 0 = no_ones k (mask / 2) (omega arith) none in
    omega arith

-- the last column is one of the mask's, or 0 where it has none
abbrev pub Own : ℕ → ℕ → Type 0
Own mask last = ((mask ≡ 0) × (last ≡ 0)) ⊎ (bit mask last ≡ 1)

-- what an object leaves to the next one lies on the deck, and its last column is one of the mask's
pub record Owned (columns : ℕ) (m : Made) : Type 0 where
  pub mask : m.mask < 2 ^ columns
  pub last : m.last < columns
  pub own : Own m.mask m.last

-- ---- above column 0

-- the mask has a column above 0
pub record Above (mask : ℕ) : Type 0 where
  pub column : ℕ
  pub above : 1 ≤ column
  pub has : bit mask column ≡ 1

pub above_own : (mask c : ℕ) → 1 ≤ c → Above (bit_or mask (2 ^ c))
above_own mask c l = record { column = c; above = l; has = or_own mask c }

pub above_more : (mask c : ℕ) → Above mask → Above (bit_or mask (2 ^ c))
above_more mask c h = record { column = h.column; above = h.above; has = or_left mask (2 ^ c) h.column h.has }

-- then it is not column 0 alone
pub not_alone : (mask : ℕ) → Above mask → mask ≡ 1 → ⊥
not_alone mask h e = none (mask / 2 ^ h.column) (div-eq_of_lt (omega (arith, pow_mono h.above))) h.has
  where
    none : (n : ℕ) → n ≡ 0 → n % 2 ≡ 1 → ⊥
    none n e h = omega arith

-- it is empty, or has a column above 0
abbrev pub Beside : ℕ → Type 0
Beside mask = (mask ≡ 0) ⊎ Above mask

pub beside_not : (mask : ℕ) → Beside mask → mask ≡ 1 → ⊥
beside_not mask h e = ⊎_elim (λ (z : mask ≡ 0). omega arith) (λ (a : Above mask). not_alone mask a e) h
