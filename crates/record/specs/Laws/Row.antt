-- Laws of a row of conditions. Assumes nothing.
use Rattle.std.specs.Prelude.{◌≡◌, refl, ℕ, zero, suc, ◌+◌, ◌*◌, ◌≤◌, Bool, true, false, ◌||◌, List, [], ◌∷◌, ◌++◌, ltb, length}
use Rattle.std.proofs.Common.{sym, ap, ◌∙◌, suc-ne-zero, arith, lit≤, ltb-true, lt-ltb}
use Rattle.rules.specs.Numbers as Numbers
use Rattle.rules.specs.declared.Refusal.{Refusal}
use Rattle.rules.specs.Coded.{code}
use Rattle.rules.specs.Laws.Coded.{code_some}
use Rattle.bits.specs.Field.{short}
use Rattle.record.specs.Layout as At
use Rattle.record.specs.Refusal.{◌gives◌, ◌then◌, Field, plain, field_refusal, fields_refusal}

-- a refusal is the answer of the row that it heads
pub then_some : (a b : ℕ) → (a ≡ 0 → ⊥) → a ≡ (a then b)
unfolding ◌then◌
then_some zero b h = absurd (h refl)
then_some (suc a) b h = refl

-- where nothing is refused first, the rest is the row
pub then_skip : (a b : ℕ) → a ≡ 0 → (a then b) ≡ b
unfolding ◌then◌
then_skip a b h = rw h

-- as the code goes along a row: no refusal has the number 0, so one that comes is the row's,
pub row_stop : (a b : ℕ) (r : Refusal) → code r ≡ a → (a then b) ≡ code r
row_stop a b r h = rw (← h) (sym (then_some (code r) b (code_some r)))

-- and after a condition that does not apply the row is the rest
pub row_next : (a b : ℕ) → 0 ≡ a → (a then b) ≡ b
row_next a b h = then_skip a b (sym h)

-- a row refuses nothing exactly where no condition of it applies
pub then_none : (a b : ℕ) → (a then b) ≡ 0 → (a ≡ 0) × (b ≡ 0)
unfolding ◌then◌
then_none zero b h = (refl, h)
then_none (suc a) b h = absurd (suc-ne-zero a h)

pub gives_yes : (t : Bool) (n : ℕ) → t ≡ true → (t gives n) ≡ n
unfolding ◌gives◌
gives_yes t n h = rw h

pub gives_no : (t : Bool) (n : ℕ) → t ≡ false → (t gives n) ≡ 0
unfolding ◌gives◌
gives_no t n h = rw h

pub gives_none : (t : Bool) (n : ℕ) → (t gives suc n) ≡ 0 → t ≡ false
unfolding ◌gives◌
gives_none true n h = absurd (suc-ne-zero n h)
gives_none false n h = refl

pub then_assoc : (a b c : ℕ) → ((a then b) then c) ≡ (a then (b then c))
unfolding ◌then◌
then_assoc zero b c = refl
then_assoc (suc a) b c = refl

pub then_zero : (a : ℕ) → (a then 0) ≡ a
unfolding ◌then◌
then_zero zero = refl
then_zero (suc a) = refl

pub zero_then : (b : ℕ) → (0 then b) ≡ b
unfolding ◌then◌
zero_then b = refl

-- a field with two conditions of one number, as the code checks it
pub own_two : (w : ℕ) (a b : Bool) (n : ℕ) → ((w then a gives n) then b gives n) ≡ (w then (a || b) gives n)
unfolding ◌then◌ ◌gives◌
own_two zero true true zero = refl
own_two zero true false zero = refl
own_two zero true b (suc n) = refl
own_two zero false b n = refl
own_two (suc w) a b n = refl

pub two_own : (w : ℕ) (a b : Bool) (n : ℕ) → (w then (a || b) gives n) ≡ ((w then a gives n) then b gives n)
two_own w a b n = sym (own_two w a b n)

pub or_none : (a b : Bool) → (a || b) ≡ false → (a ≡ false) × (b ≡ false)
or_none true b h = (h, cc)
or_none false b h = (refl, h)

-- two lists of fields in a row
pub fields_append : (s : List ℕ) (fs gs : List Field) → fields_refusal s (fs ++ gs) ≡ (fields_refusal s fs then fields_refusal s gs)
unfolding fields_refusal ◌then◌
fields_append s [] gs = refl
fields_append s (f ∷ fs) gs = ap (λ (x : ℕ). field_refusal s f then x) (fields_append s fs gs) ∙ sym (then_assoc (field_refusal s f) (fields_refusal s fs) (fields_refusal s gs))

-- Of two fields in a row that can only be not whole, the end of the second alone gives the same number.
pub whole_once : (s : List ℕ) (p q : ℕ) → p ≤ q → (short s p gives Numbers.field_not_whole then short s q gives Numbers.field_not_whole) ≡ (short s q gives Numbers.field_not_whole)
unfolding short ◌gives◌ ◌then◌
whole_once s p q h = by (ltb (8 * length s) p) refl
  where
    by : (t : Bool) → ltb (8 * length s) p ≡ t → (t gives Numbers.field_not_whole then ltb (8 * length s) q gives Numbers.field_not_whole) ≡ (ltb (8 * length s) q gives Numbers.field_not_whole)
    by true e = rw (lt-ltb (8 * length s) q (omega (arith, ltb-true (8 * length s) p e)))
    by false e = refl

-- a field that can only be not whole, before one that ends at bit e
pub plain_once : (s : List ℕ) (p w e r : ℕ) → p + w ≤ e → (field_refusal s (plain p w) then short s e gives Numbers.field_not_whole then r) ≡ (short s e gives Numbers.field_not_whole then r)
plain_once s p w e r h =
    ap (λ (x : ℕ). x then short s e gives Numbers.field_not_whole then r) (then_zero (short s (p + w) gives Numbers.field_not_whole))
    ∙ (sym (then_assoc (short s (p + w) gives Numbers.field_not_whole) (short s e gives Numbers.field_not_whole) r) ∙ ap (λ (x : ℕ). x then r) (whole_once s (p + w) e h))

-- the counts of the header
pub counts_once : (s : List ℕ)
    → (short s At.timing_count gives Numbers.field_not_whole then short s At.difficulty_count gives Numbers.field_not_whole then short s At.effect_count gives Numbers.field_not_whole
    then short s At.object_count gives Numbers.field_not_whole then short s At.breaks gives Numbers.field_not_whole)
    ≡ (short s At.breaks gives Numbers.field_not_whole)
counts_once s =
    rw (whole_once s At.object_count At.breaks (lit≤ tt), whole_once s At.effect_count At.breaks (lit≤ tt), whole_once s At.difficulty_count At.breaks (lit≤ tt), whole_once s At.timing_count At.breaks (lit≤ tt))
