-- A refusal by its number: no two have one number. Assumes nothing.
use Rattle.std.specs.Prelude.{◌≡◌, ℕ, List, [], ◌∷◌, get_or}
use Rattle.std.proofs.Common.{refl, sym, ap, ◌∙◌, arith}
use Rattle.rules.specs.Coded.{code}
use Rattle.rules.specs.declared.Refusal.{Refusal}
use Rattle.rules.specs.declared.Refusal.TheVariants.{FieldNotWhole, Version, KeyChoice, Setting, BreakOrPoint, Object, Filling, SliderEnd, NoColumn, OffDeck, ChartTooShort, NoDrawLeft, ColumnsOrPrevious, BrokenChart, SheetTooShort, LongSearch, Times, ColumnOffDeck, ListTooShort, Range, Counts, NotWhole, TextTooShort, HitObjects}

-- 0, 22 and 23 are no refusal's
numbered : List Refusal
numbered =
    FieldNotWhole
    ∷ FieldNotWhole
    ∷ Version
    ∷ KeyChoice
    ∷ Setting
    ∷ BreakOrPoint
    ∷ Object
    ∷ Filling
    ∷ SliderEnd
    ∷ NoColumn
    ∷ OffDeck
    ∷ ChartTooShort
    ∷ NoDrawLeft
    ∷ ColumnsOrPrevious
    ∷ BrokenChart
    ∷ SheetTooShort
    ∷ LongSearch
    ∷ Times
    ∷ ColumnOffDeck
    ∷ ListTooShort
    ∷ Range
    ∷ Counts
    ∷ FieldNotWhole
    ∷ FieldNotWhole
    ∷ NotWhole
    ∷ TextTooShort
    ∷ HitObjects
    ∷ []

pub refusal_of : ℕ → Refusal
refusal_of n = get_or numbered n FieldNotWhole

pub refusal_of_code : (r : Refusal) → refusal_of (code r) ≡ r
unfolding refusal_of numbered
refusal_of_code FieldNotWhole = refl
refusal_of_code Version = refl
refusal_of_code KeyChoice = refl
refusal_of_code Setting = refl
refusal_of_code BreakOrPoint = refl
refusal_of_code Object = refl
refusal_of_code Filling = refl
refusal_of_code SliderEnd = refl
refusal_of_code NoColumn = refl
refusal_of_code OffDeck = refl
refusal_of_code ChartTooShort = refl
refusal_of_code NoDrawLeft = refl
refusal_of_code ColumnsOrPrevious = refl
refusal_of_code BrokenChart = refl
refusal_of_code SheetTooShort = refl
refusal_of_code LongSearch = refl
refusal_of_code Times = refl
refusal_of_code ColumnOffDeck = refl
refusal_of_code ListTooShort = refl
refusal_of_code Range = refl
refusal_of_code Counts = refl
refusal_of_code NotWhole = refl
refusal_of_code TextTooShort = refl
refusal_of_code HitObjects = refl

pub code_tells : (r s : Refusal) → code r ≡ code s → r ≡ s
code_tells r s e = sym (refusal_of_code r) ∙ ap refusal_of e ∙ refusal_of_code s

-- no refusal has the number of none
pub code_some : (r : Refusal) → code r ≡ 0 → ⊥
code_some r h = grind arith
