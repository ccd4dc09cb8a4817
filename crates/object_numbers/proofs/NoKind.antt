-- A number that is no kind's: what it stands for, and that it is refused by 6 after the checks before. Assumes nothing.
use Rattle.std.specs.Prelude.{Option, None}
use mathlib.Core.Path.{◌≡◌, refl}
use mathlib.Core.Bool.{Bool, true, false, ◌&&◌}
use Prim.Native.Nat.{ℕ, zero, suc}
use lib.Dec.{ltb}
use lib.Ieee.{Float}
use lib.Ieee.Scale.{finite}
use Rattle.model.specs.Limits.{span_range}
use Rattle.model.specs.declared.Kind.TheVariants.{Slider}
use Rattle.mania.specs.declared.Facts.{Facts}
use Rattle.mania.specs.declared.PrevValues.{PrevValues}
use Rattle.mania.specs.Single.{inside, position_fits, pattern_fits, settings_fit, points_fit, kind_fits, object_fits, entry_refusal}
use Rattle.object_numbers.specs.Single.{largest16, kind_of, object_of}

pub no_kind : (k repeats : ℕ) (distance : Option Float) (node : Option ℕ) (duration : Float) → (k ≡ 0 → ⊥) → (k ≡ 1 → ⊥) → (k ≡ 2 → ⊥) → (k ≡ 3 → ⊥)
    → kind_of k repeats distance node duration ≡ Slider largest16 None None
unfolding kind_of
no_kind zero repeats distance sound duration h₀ h₁ h₂ h₃ = absurd (h₀ refl)
no_kind (suc zero) repeats distance sound duration h₀ h₁ h₂ h₃ = absurd (h₁ refl)
no_kind (suc (suc zero)) repeats distance sound duration h₀ h₁ h₂ h₃ = absurd (h₂ refl)
no_kind (suc (suc (suc zero))) repeats distance sound duration h₀ h₁ h₂ h₃ = absurd (h₃ refl)
no_kind (suc (suc (suc (suc k)))) repeats distance sound duration h₀ h₁ h₂ h₃ = refl

no_fourth : (a d e g : Bool) → (a && false && d && e && g) ≡ false
no_fourth true d e g = refl
no_fourth false d e g = refl

module _ (f : Facts) (v : PrevValues) (columns : ℕ) (x y start : Float) (sound k repeats : ℕ) (distance : Option Float) (node : Option ℕ) (duration : Float) where
  unfit : object_fits f v (object_of x y start sound (kind_of (suc (suc (suc (suc k)))) repeats distance node duration)) ≡ false
  unfolding kind_of object_fits kind_fits
  unfit =
      no_fourth (position_fits (record { x = x; y = y }) && inside span_range start && ltb sound 16) (position_fits v.position) (finite v.time) (finite f.density)

  pub no_kind_refused : pattern_fits v columns ≡ true → settings_fit f ≡ true → points_fit f ≡ true
      → entry_refusal f v columns (object_of x y start sound (kind_of (suc (suc (suc (suc k)))) repeats distance node duration)) ≡ 6
  unfolding entry_refusal
  no_kind_refused hp hs hq = rw (hp, hs, hq, unfit)
