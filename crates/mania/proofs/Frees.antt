-- How many columns of a range a mask has free. Assumes nothing.
use Rattle.std.specs.Prelude.{if◌then◌else◌}
use mathlib.Core.Path.{◌≡◌, refl, sym, ap, ◌∙◌}
use Prim.Native.Nat.{ℕ, zero, suc, ◌+◌, ◌-◌, ◌/◌, ◌%◌, ◌^◌, ◌≤◌, ◌<◌, max}
use native.Mathlib.Nat.{div-one, zero-div, one-mul, div-eq_of_lt}
use native.Mathlib.Numerals.{add-one}
use native.Mathlib.Omega.{arith}
use mathlib.Core.Bool.{Bool, true, false, ◌||◌}
use lib.Dec.{eqb, ltb}
use lib.Pow.{pow-lt, pow-add, shl-shr, shr-shr}
use lib.Count.{ones, ones_step}
use lib.Bits.{bit_or, shifted_even}
use borrow.Author.Tests.{eqb-true, eqb-false, eq-eqb, ltb-true, ltb-false}
use Rattle.mania.specs.Pattern.{free, any_free}
use Rattle.mania.proofs.Masks.{bit, free_bit, taken_bit, or_bit}

abbrev one : Bool → ℕ
one b = if b then 1 else 0

unfoldable pub frees : ℕ → ℕ → ℕ → ℕ
frees mask c zero = 0
frees mask c (suc n) = one (free mask c) + frees mask (suc c) n

pub bit_free : (mask c : ℕ) → bit mask c ≡ 0 → free mask c ≡ true
unfolding free
bit_free mask c h = eq-eqb (bit mask c) 0 h

-- where some are free, one is
pub some_free : (mask c n : ℕ) → 0 < frees mask c n → any_free mask c n ≡ true
unfolding frees any_free
some_free mask c zero h = absurd (none h)
  where
    none : 0 < 0 → ⊥
    none h = omega arith
some_free mask c (suc n) h = go (free mask c) h (some_free mask (suc c) n)
  where
    go : (b : Bool) → 0 < one b + frees mask (suc c) n → (0 < frees mask (suc c) n → any_free mask (suc c) n ≡ true) → (b || any_free mask (suc c) n) ≡ true
    go true h k = refl
    go false h k = k (omega arith)

-- a free column of the range
pub record Free (mask c n : ℕ) : Type 0 where
  pub at : ℕ
  pub from : c ≤ at
  pub to : at < c + n
  pub is : free mask at ≡ true

pub find_free : (mask c n : ℕ) → any_free mask c n ≡ true → Free mask c n
unfolding any_free
find_free mask c zero h = let z : ◌≡◌ {A = ℕ} 0 1 = ap (λ (b : Bool). one b) h in absurd (omega arith)
find_free mask c (suc n) h = go (free mask c) refl h (find_free mask (suc c) n)
  where
    go : (b : Bool) → free mask c ≡ b → (b || any_free mask (suc c) n) ≡ true → (any_free mask (suc c) n ≡ true → Free mask (suc c) n) → Free mask c (suc n)
    go true e h k = record { at = c; from = omega arith; to = omega arith; is = e }
    go false e h k = let f = k h in record { at = f.at; from = omega (arith, f.from); to = omega (arith, f.to); is = f.is }

pub all_free : (c n : ℕ) → frees 0 c n ≡ n
unfolding frees free
all_free c zero = refl
all_free c (suc n) = free_here (0 / 2 ^ c) (frees 0 (suc c) n) (zero-div (2 ^ c)) (all_free (suc c) n)
  where
    free_here : (k m : ℕ) → k ≡ 0 → m ≡ n → one (eqb (k % 2) 0) + m ≡ suc n
    free_here k m e h = ap (λ (i : ℕ). one (eqb (i % 2) 0) + m) e ∙ omega arith

one_le : (x y c : ℕ) → (bit x c ≡ 0 → bit y c ≡ 0) → one (free x c) ≤ one (free y c)
one_le x y c h = go (free x c) refl
  where
    go : (b : Bool) → free x c ≡ b → one b ≤ one (free y c)
    go true e = rw (bit_free y c (h (free_bit x c e))) (omega arith)
    go false e = omega arith

one_small : (b : Bool) → one b ≤ 1
one_small true = omega arith
one_small false = omega arith

-- what one mask has free, the other has too
pub frees_same : (x y c n : ℕ) → ((e : ℕ) → c ≤ e → e < c + n → bit x e ≡ 0 → bit y e ≡ 0) → frees x c n ≤ frees y c n
unfolding frees
frees_same x y c zero h = omega arith
frees_same x y c (suc n) h =
    omega (arith, one_le x y c (h c (omega arith) (omega arith)), frees_same x y (suc c) n (λ e l m. h e (omega arith) (omega arith)))

-- but for one column
pub frees_one : (x y d c n : ℕ) → ((e : ℕ) → (e ≡ d → ⊥) → bit x e ≡ 0 → bit y e ≡ 0) → frees x c n ≤ frees y c n + 1
unfolding frees
frees_one x y d c zero h = omega arith
frees_one x y d c (suc n) h = go (eqb c d) refl (frees_one x y d (suc c) n h)
  where
    go : (b : Bool) → eqb c d ≡ b → frees x (suc c) n ≤ frees y (suc c) n + 1 → one (free x c) + frees x (suc c) n ≤ one (free y c) + frees y (suc c) n + 1
    go true e r = let i = eqb-true c d e in omega (arith, one_small (free x c), frees_same x y (suc c) n (λ k l m. h k (λ z. omega arith)))
    go false e r = omega (arith, one_le x y c (h c (eqb-false c d e)))

-- ---- the bit of a column in the mask of another

pub other_bit : (c e : ℕ) → (e ≡ c → ⊥) → bit (2 ^ c) e ≡ 0
other_bit c e h = go (ltb e c) refl
  where
    above : c < e → bit (2 ^ c) e ≡ 0
    above l = ap (λ (k : ℕ). k % 2) (div-eq_of_lt (pow-lt l))

    below : (j : ℕ) → c ≡ suc j + e → bit (2 ^ c) e ≡ 0
    below j i =
        ap (λ (k : ℕ). 2 ^ k / 2 ^ e % 2) i ∙ ap (λ (k : ℕ). k / 2 ^ e % 2) (pow-add 2 (suc j) e) ∙ ap (λ (k : ℕ). k % 2) (shl-shr (2 ^ suc j) e)
        ∙ ap (λ (k : ℕ). k % 2) (sym (one-mul (2 ^ suc j))) ∙ shifted_even 1 j

    go : (b : Bool) → ltb e c ≡ b → bit (2 ^ c) e ≡ 0
    go true l = let z = ltb-true e c l in below (c - suc e) (omega arith)
    go false l = let z = ltb-false e c l in above (omega arith)

-- a column more
pub frees_put : (mask d c n : ℕ) → frees mask c n ≤ frees (bit_or mask (2 ^ d)) c n + 1
frees_put mask d c n = frees_one mask (bit_or mask (2 ^ d)) d c n (λ e z f. put e (other_bit d e z) f)
  where
    put : (e : ℕ) → bit (2 ^ d) e ≡ 0 → bit mask e ≡ 0 → bit (bit_or mask (2 ^ d)) e ≡ 0
    put e g f = or_bit mask (2 ^ d) e ∙ omega arith

-- under a union
pub frees_put_in : (mask barred d c n : ℕ) → frees (bit_or mask barred) c n ≤ frees (bit_or (bit_or mask (2 ^ d)) barred) c n + 1
frees_put_in mask barred d c n = frees_one (bit_or mask barred) (bit_or (bit_or mask (2 ^ d)) barred) d c n (λ e z f. put e (other_bit d e z) f)
  where
    put : (e : ℕ) → bit (2 ^ d) e ≡ 0 → bit (bit_or mask barred) e ≡ 0 → bit (bit_or (bit_or mask (2 ^ d)) barred) e ≡ 0
    put e g f = let k = or_bit mask barred e in or_bit (bit_or mask (2 ^ d)) barred e ∙ ap (λ (i : ℕ). max i (bit barred e)) (or_bit mask (2 ^ d) e) ∙ omega arith

-- a column past the range
pub frees_past : (mask d c n : ℕ) → c + n ≤ d → frees mask c n ≤ frees (bit_or mask (2 ^ d)) c n
frees_past mask d c n l = frees_same mask (bit_or mask (2 ^ d)) c n (λ e h m f. put e (other_bit d e (λ z. omega arith)) f)
  where
    put : (e : ℕ) → bit (2 ^ d) e ≡ 0 → bit mask e ≡ 0 → bit (bit_or mask (2 ^ d)) e ≡ 0
    put e g f = or_bit mask (2 ^ d) e ∙ omega arith

-- ---- at most as many are taken as the mask has ones

half_ones : (n : ℕ) → ones (n / 2) ≤ ones n
half_ones n = omega (arith, ones_step n)

pub next_bits : (mask c : ℕ) → mask / 2 ^ c / 2 ≡ mask / 2 ^ suc c
next_bits mask c = shr-shr mask c 1 ∙ ap (λ (k : ℕ). mask / 2 ^ k) (add-one c)

shifted_ones : (mask c : ℕ) → ones (mask / 2 ^ c) ≤ ones mask
shifted_ones mask zero = omega (arith, ap ones (div-one mask))
shifted_ones mask (suc c) = omega (arith, shifted_ones mask c, half_ones (mask / 2 ^ c), ap ones (next_bits mask c))

range_ones : (mask c n : ℕ) → n ≤ frees mask c n + ones (mask / 2 ^ c)
unfolding frees
range_ones mask c zero = omega arith
range_ones mask c (suc n) = go (free mask c) refl (range_ones mask (suc c) n)
  where
    step : ones (mask / 2 ^ c) ≡ bit mask c + ones (mask / 2 ^ suc c)
    step = ones_step (mask / 2 ^ c) ∙ ap (λ (k : ℕ). bit mask c + ones k) (next_bits mask c)

    go : (b : Bool) → free mask c ≡ b → n ≤ frees mask (suc c) n + ones (mask / 2 ^ suc c) → suc n ≤ one b + frees mask (suc c) n + ones (mask / 2 ^ c)
    go true e r = omega (arith, step)
    go false e r = omega (arith, step, taken_bit mask c e)

pub room : (mask c n : ℕ) → n - ones mask ≤ frees mask c n
room mask c n = omega (arith, range_ones mask c n, shifted_ones mask c)
