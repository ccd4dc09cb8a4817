-- Conditions in record order, and lists of entries. A refusal is its number, 0 where nothing is refused. Conditions are put in a row, and the first that
-- applies gives the number. Values are total: bits past the end are 0, and a NaN's pattern reads as 0. Assumes nothing.
use Rattle.std.specs.Prelude.{ℕ, zero, suc, ◌+◌, Bool, true, false, not, List, [], ◌∷◌, Float}
use Rattle.std.specs.Float.{binary32, binary64}
use Rattle.model.specs.Limits.{Range}
use Rattle.rules.specs.Numbers as Numbers
use Rattle.bits.specs.Field.{bits, short}
use Rattle.floats.specs.Range.{within, float}

infixr 25 ◌then◌
infix 30 ◌gives◌
-- the number n under the condition
unfoldable pub ◌gives◌ : Bool → ℕ → ℕ
true gives n = n
false gives n = 0

-- the first refusal, or the second where there is no first
unfoldable pub ◌then◌ : ℕ → ℕ → ℕ
zero then b = b
suc a then b = suc a

-- a field of `width` bits at bit `place`, and its own refusal, 0 where it has none
pub record Field : Type 0 where
  pub place : ℕ
  pub width : ℕ
  pub own : ℕ

-- w bits at bit p, refused with n under the condition
abbrev pub field : ℕ → ℕ → Bool → ℕ → Field
field p w bad n = record { place = p; width = w; own = bad gives n }

-- w bits at bit p with no condition of their own
abbrev pub plain : ℕ → ℕ → Field
plain p w = record { place = p; width = w; own = 0 }

-- out of its range, of an f32 and of an f64
abbrev pub out32 : List ℕ → ℕ → Range → Bool
out32 s p range = not (within binary32 range.low range.high (bits s p 32))

abbrev pub out64 : List ℕ → ℕ → Range → Bool
out64 s p range = not (within binary64 range.low range.high (bits s p 64))

-- a field cut off by the record's end gives 1, else its own condition gives its number
abbrev pub field_refusal : List ℕ → Field → ℕ
field_refusal s f = short s (f.place + f.width) gives Numbers.field_not_whole then f.own

-- the number of the first field that is refused
unfoldable pub fields_refusal : List ℕ → List Field → ℕ
fields_refusal s [] = 0
fields_refusal s (f ∷ fs) = field_refusal s f then fields_refusal s fs

-- the float field of 32 bits at bit p
unfoldable pub f32_at : List ℕ → ℕ → Float
f32_at s p = float binary32 (bits s p 32)

-- the float field of 64 bits at bit p
unfoldable pub f64_at : List ℕ → ℕ → Float
f64_at s p = float binary64 (bits s p 64)

-- n entries from bit p on. `entry` is the refusal of the entry at a bit, given the key of the one before it; `next` is where the entry ends, and
-- `key` what the entries are ordered by.
unfoldable pub entries_refusal : (ℕ → Float → ℕ) → (ℕ → ℕ) → (ℕ → Float) → ℕ → Float → ℕ → ℕ
entries_refusal entry next key p before zero = 0
entries_refusal entry next key p before (suc n) = entry p before then entries_refusal entry next key (next p) (key p) n

-- the values of n entries from bit p on
unfoldable pub entries : {A : Type 0} → (ℕ → A) → (ℕ → ℕ) → ℕ → ℕ → List A
entries entry next p zero = []
entries entry next p (suc n) = entry p ∷ entries entry next (next p) n

-- where n entries from bit p on end
unfoldable pub entries_end : (ℕ → ℕ) → ℕ → ℕ → ℕ
entries_end next p zero = p
entries_end next p (suc n) = entries_end next (next p) n
