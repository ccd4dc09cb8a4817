-- `Pattern` of convert/pattern.rs: the mask of its columns, its last column and its notes in walk order. Assumes nothing.
use Rattle.std.specs.Prelude.{ℕ, zero, suc, ◌/◌, ◌%◌, ◌^◌, Bool, false, ◌||◌, List, [], ◌∷◌, ◌++◌, eqb, ltb, if◌then◌else◌}
use Rattle.std.specs.Int.Bits.{bit_or}
use Rattle.rules.specs.Rule.{give, refuse}
use Rattle.rules.specs.Refusal.{ObjectRule, off_deck}

-- A mask has bit c set where column c is taken. `column_has_obj`, the other way round: column c is free
unfoldable pub free : ℕ → ℕ → Bool
free mask c = eqb (mask / 2 ^ c % 2) 0

-- one of the n columns from c on is free
unfoldable pub any_free : ℕ → ℕ → ℕ → Bool
any_free mask c zero = false
any_free mask c (suc n) = free mask c || any_free mask (suc c) n

-- a pattern of notes A; its last column is 0 where it is empty
pub record Pattern (A : Type 0) : Type 0 where
  pub mask : ℕ
  pub last : ℕ
  pub notes : List A

-- `Pattern::default`
unfoldable pub empty : {A : Type 0} → Pattern A
empty = record { mask = 0; last = 0; notes = [] }

-- a note more, at column c
unfoldable pub put : {A : Type 0} → A → ℕ → Pattern A → Pattern A
put note c p = record { mask = bit_or p.mask (2 ^ c); last = c; notes = p.notes ++ note ∷ [] }

-- `add_note`, `add_slider_note`: a column off the deck is refused by 10
unfoldable pub add : {A : Type 0} → ℕ → A → ℕ → Pattern A → ObjectRule (Pattern A)
add columns note c p = if ltb c columns then give (put note c p) else refuse off_deck
