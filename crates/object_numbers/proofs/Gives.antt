-- What a host in C gets of the single-object entry's answer. Assumes nothing.
use Rattle.std.specs.Prelude.{Option}
use mathlib.Core.Path.{◌≡◌, refl, ap, ap₂, ◌∙◌, subst}
use mathlib.Core.List.{List}
use Prim.Native.Nat.{ℕ}
use lib.Ieee.{Float}
use Rattle.random.specs.declared.Random.{Random}
use Rattle.model.specs.declared.Kind.{Kind}
use Rattle.model.specs.declared.Object.{Object}
use Rattle.mania.specs.declared.Facts.{Facts}
use Rattle.mania.specs.declared.PrevValues.{PrevValues}
use Rattle.mania.specs.Single.{Single, single_object}
use Rattle.std.specs.Prelude.{Result, Ok, Err}
use Rattle.single.specs.declared.Converted.{Converted}
use Rattle.single.specs.declared.ObjectRefused.{ObjectRefused}
use Rattle.single.specs.Ends.{single_end}
use Rattle.object_numbers.specs.declared.Told.{Told}
use Rattle.object_numbers.specs.Single.{kind_of, object_of, told, Gives}

-- an object, from those of its parts
pub object_from : (x y start : Float) (sound kind repeats : ℕ) (d d₁ : Option Float) (n n₁ : Option ℕ) (duration : Float) (k : Kind) (o : Object)
    → d ≡ d₁ → n ≡ n₁ → k ≡ kind_of kind repeats d n duration → o ≡ object_of x y start sound k → o ≡ object_of x y start sound (kind_of kind repeats d₁ n₁ duration)
object_from x y start sound kind repeats d d₁ n n₁ duration k o hd hn hk ho =
    ho ∙ ap (object_of x y start sound) (hk ∙ ap₂ (λ (d : Option Float) (n : Option ℕ). kind_of kind repeats d n duration) hd hn)

same_notes : (notes : List ℕ) (e : Result Converted ObjectRefused) → notes ≡ (single_end notes e).notes
same_notes notes (Ok m) = refl
same_notes notes (Err r) = refl

-- the entry's answer for equal values, which is that for other numbers too
pub gives : (f f₁ : Facts) (v v₁ : PrevValues) (columns columns₁ : ℕ) (o o₁ : Object) (lent : Random) (allowance : ℕ) (entry exit : List ℕ) (e : Result Converted ObjectRefused) (t : Told) (whole : Single)
    → f ≡ f₁ → v ≡ v₁ → columns ≡ columns₁ → o ≡ o₁ → single_object f₁ v₁ columns₁ o₁ lent allowance entry ≡ whole
    → single_end exit e ≡ single_object f v columns o lent allowance entry → ((notes : List ℕ) → t ≡ told (single_end notes e).answer)
    → Gives whole t exit
gives f f₁ v v₁ columns columns₁ o o₁ lent allowance entry exit e t whole hf hv hc ho same says tells =
    subst (λ (s : Single). Gives s t exit)
    (says ∙ ap₂ (λ (f : Facts) (v : PrevValues). single_object f v columns o lent allowance entry) hf hv ∙ ap₂ (λ (c : ℕ) (o : Object). single_object f₁ v₁ c o lent allowance entry) hc ho ∙ same)
    (tells exit, same_notes exit e)
