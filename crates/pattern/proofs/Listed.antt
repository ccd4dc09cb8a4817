-- The number of ones of a mask is the number of columns that it lists. Assumes nothing.
use Rattle.std.specs.Prelude.{if◌then◌else◌}
use mathlib.Core.Path.{◌≡◌, refl, sym, ap, ◌∙◌}
use Prim.Native.Nat.{ℕ, zero, suc, ◌+◌, ◌*◌, ◌/◌, ◌^◌, ◌<◌}
use native.Mathlib.Nat.{div-div-eq-div-mul, div-one, pow-suc, zero-add}
use native.Mathlib.Omega.{arith}
use mathlib.Core.Bool.{Bool, true, false}
use mathlib.Core.List.{List, ◌∷◌}
use lib.Count.{ones, ones_step}
use lib.ListN.{length}
use Rattle.mania.specs.Pattern.{free}
use Rattle.mania.proofs.Masks.{free_bit, taken_bit}
use Rattle.pattern.specs.Listed.{listed}

none : (a : ℕ) → a < 1 → 0 ≡ ones a
unfolding ones
none a h = let e : a ≡ 0 = omega arith in rw e

half : (mask c : ℕ) → mask / 2 ^ c / 2 ≡ mask / 2 ^ suc c
half mask c = div-div-eq-div-mul mask (2 ^ c) 2 ∙ ap (λ (x : ℕ). mask / x) (sym (pow-suc 2 c))

half_lt : (a n : ℕ) → a < 2 ^ suc n → a / 2 < 2 ^ n
half_lt a n h = let e : 2 ^ suc n ≡ 2 ^ n * 2 = pow-suc 2 n in omega arith

-- a column more, from those after it
one_more : (mask c : ℕ) (l : List ℕ) → length l ≡ ones (mask / 2 ^ suc c) → length (if free mask c then l else c ∷ l) ≡ ones (mask / 2 ^ c)
one_more mask c l h = go (free mask c) refl
  where
    later : length l ≡ ones (mask / 2 ^ c / 2)
    later = rw (half mask c) h

    one : (x : ℕ) → 1 + x ≡ suc x
    one x = omega arith

    go : (b : Bool) → free mask c ≡ b → length (if b then l else c ∷ l) ≡ ones (mask / 2 ^ c)
    go true e = later ∙ sym (ones_step (mask / 2 ^ c) ∙ ap (λ (x : ℕ). x + ones (mask / 2 ^ c / 2)) (free_bit mask c e) ∙ zero-add _)
    go false e = ap suc later ∙ sym (ones_step (mask / 2 ^ c) ∙ ap (λ (x : ℕ). x + ones (mask / 2 ^ c / 2)) (taken_bit mask c e) ∙ one _)

count_from_law : (mask c n : ℕ) → mask / 2 ^ c < 2 ^ n → length (listed mask c n) ≡ ones (mask / 2 ^ c)
unfolding listed
count_from_law mask c zero h = none (mask / 2 ^ c) h
count_from_law mask c (suc n) h =
    one_more mask c (listed mask (suc c) n) (count_from_law mask (suc c) n (rw (← (half mask c)) (half_lt (mask / 2 ^ c) n h)))

pub listed_count : (mask : ℕ) → mask < 2 ^ 16 → length (listed mask 0 16) ≡ ones mask
listed_count mask h = let e : mask / 2 ^ 0 ≡ mask = div-one mask in count_from_law mask 0 16 (rw e h) ∙ ap ones e
