-- Numbers and words that a list of bytes begins with.
-- Assumes nothing.
use Rattle.std.specs.Prelude.{◌≡◌, refl, true, false, ◌&&◌, List, [], ◌∷◌, ℕ, ◌-◌, ◌≤◌, ◌<◌, leb, nat_eq, length, take}
use Rattle.std.specs.Char.{is_ascii_digit}
use Rattle.std.specs.Cmp.Lexicographic.{pointwise}
use Rattle.std.proofs.Common.{ap}
use Rattle.std.proofs.Math.Option.{none, some}
use borrow.Author.Tests.{ne_eqb, le-leb, lt-leb, leb-true}
use Rattle.model.specs.Limits.{latest_end}
use Rattle.chart.specs.Tests.{both}
use Rattle.hit_object_lines.specs.Reading.{is_digit, with_digit, digits_on, limited, number, starts_with}

-- ---- digits

pub digit_same : (c : ℕ) → is_ascii_digit c ≡ is_digit c
unfolding is_digit
digit_same c = refl

pub digit_range : (c : ℕ) → is_digit c ≡ true → (48 ≤ c) × (c ≤ 57)
unfolding is_digit
digit_range c h = let k = both (leb 48 c) (leb c 57) h in (leb-true 48 c k.0, leb-true c 57 k.1)

pub digits_end : (v : ℕ) → (v, []) ≡ digits_on v []
unfolding digits_on
digits_end v = refl

module _ (v c : ℕ) (s : List ℕ) where
  pub digits_next : is_digit c ≡ true → digits_on v (c ∷ s) ≡ digits_on (with_digit v c) s
  unfolding digits_on
  digits_next h = rw h

  pub digits_stop : is_digit c ≡ false → (v, c ∷ s) ≡ digits_on v (c ∷ s)
  unfolding digits_on
  digits_stop h = rw h

-- ---- a number

pub number_end : none ≡ number []
unfolding number
number_end = refl

module _ (c : ℕ) (s : List ℕ) where
  pub number_zero : c ≡ 48 → some (0, s) ≡ number (c ∷ s)
  unfolding number
  number_zero e = rw e

  module _ (other : c ≡ 48 → ⊥) where
    pub number_sign : is_digit c ≡ false → none ≡ number (c ∷ s)
    unfolding number
    number_sign h = rw (ne_eqb c 48 other, h)

    module _ (v : ℕ) (r : List ℕ) (h : is_digit c ≡ true) (run : (v, r) ≡ digits_on (c - 48) s) where
      reading : number (c ∷ s) ≡ limited (v, r)
      unfolding number
      reading = rw (ne_eqb c 48 other, h, ← run)

      pub number_large : latest_end < v → none ≡ number (c ∷ s)
      unfolding limited
      number_large k = rw reading (rw (lt-leb v latest_end k))

      pub number_is : v ≤ latest_end → some (v, r) ≡ number (c ∷ s)
      unfolding limited
      number_is k = rw reading (rw (le-leb v latest_end k))

-- ---- a word

-- the test of `strip_prefix`
pub word_same : (word s : List ℕ) → pointwise nat_eq (take (length word) s) word ≡ starts_with word s
unfolding starts_with
word_same [] s = refl
word_same (w ∷ word) [] = refl
word_same (w ∷ word) (c ∷ s) = ap (λ t. nat_eq c w && t) (word_same word s)
