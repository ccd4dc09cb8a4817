-- The numbers of refusals, one by one. Assumes nothing.
use mathlib.Core.Path.{◌≡◌, refl}
use mathlib.Core.Logic.{◌⊎◌, inl, inr}
use Prim.Native.Nat.{ℕ, zero, suc, ◌+◌, ◌-◌, ◌≤◌}
use native.Mathlib.Omega.{arith}
use mathlib.Core.Bool.{Bool, true, false}
use lib.Dec.{leb}
use borrow.Author.Tests.{leb-true, leb-false}
use Rattle.rules.specs.Refusal.{Refusal, late_end, no_column, off_deck, too_short, number, long_search}

-- those of a rule
pub numbered : (r : Refusal) → (8 ≤ number r) × ((number r ≤ 11) ⊎ (number r ≡ 16))
numbered late_end = (omega arith, inl (omega arith))
numbered no_column = (omega arith, inl (omega arith))
numbered off_deck = (omega arith, inl (omega arith))
numbered too_short = (omega arith, inl (omega arith))
numbered long_search = (omega arith, inr refl)

pub is_late : (r : Refusal) → number r ≡ 8 → r ≡ late_end
is_late late_end e = refl
is_late no_column e = absurd (omega arith)
is_late off_deck e = absurd (omega arith)
is_late too_short e = absurd (omega arith)
is_late long_search e = absurd (omega arith)

pub is_blocked : (r : Refusal) → number r ≡ 9 → r ≡ no_column
is_blocked late_end e = absurd (omega arith)
is_blocked no_column e = refl
is_blocked off_deck e = absurd (omega arith)
is_blocked too_short e = absurd (omega arith)
is_blocked long_search e = absurd (omega arith)

pub is_off : (r : Refusal) → number r ≡ 10 → r ≡ off_deck
is_off late_end e = absurd (omega arith)
is_off no_column e = absurd (omega arith)
is_off off_deck e = refl
is_off too_short e = absurd (omega arith)
is_off long_search e = absurd (omega arith)

pub is_short : (r : Refusal) → number r ≡ 11 → r ≡ too_short
is_short late_end e = absurd (omega arith)
is_short no_column e = absurd (omega arith)
is_short off_deck e = absurd (omega arith)
is_short too_short e = refl
is_short long_search e = absurd (omega arith)

pub is_long_law : (r : Refusal) → number r ≡ 16 → r ≡ long_search
is_long_law late_end e = absurd (omega arith)
is_long_law no_column e = absurd (omega arith)
is_long_law off_deck e = absurd (omega arith)
is_long_law too_short e = absurd (omega arith)
is_long_law long_search e = refl

pub same_number : (q r : Refusal) → number q ≡ number r → q ≡ r
same_number q late_end e = is_late q e
same_number q no_column e = is_blocked q e
same_number q off_deck e = is_off q e
same_number q too_short e = is_short q e
same_number q long_search e = is_long_law q e

-- no refusal of a rule is 12
pub not_12 : (n : ℕ) → (n ≤ 11) ⊎ (n ≡ 16) → n ≡ 12 → ⊥
not_12 n (inl h) e = omega arith
not_12 n (inr h) e = omega arith

pub up_to : (n : ℕ) → (n ≤ 11) ⊎ (n ≡ 16) → (n ≤ 12) ⊎ (n ≡ 16)
up_to n (inl h) = inl (omega arith)
up_to n (inr h) = inr h

-- 1 to 12, or 16
pub data Number (r : ℕ) : Type 0 where
  unread : r ≤ 7 → Number r
  late : r ≡ 8 → Number r
  blocked : r ≡ 9 → Number r
  below : r ≡ 10 → Number r
  short : r ≡ 11 → Number r
  drawn : r ≡ 12 → Number r
  long : r ≡ 16 → Number r

pub which : (r : ℕ) → (r ≤ 12) ⊎ (r ≡ 16) → Number r
which r (inr e) = long e
which r (inl h) = go (leb r 7) refl
  where
    past : (k : ℕ) → r ≡ 8 + k → Number r
    past zero e = late (omega arith)
    past (suc zero) e = blocked (omega arith)
    past (suc (suc zero)) e = below (omega arith)
    past (suc (suc (suc zero))) e = short (omega arith)
    past (suc (suc (suc (suc zero)))) e = drawn (omega arith)
    past (suc (suc (suc (suc (suc k))))) e = absurd (omega arith)

    go : (b : Bool) → leb r 7 ≡ b → Number r
    go true e = unread (leb-true r 7 e)
    go false e = let l = leb-false r 7 e in past (r - 8) (omega arith)
