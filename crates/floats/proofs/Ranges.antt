-- The cases of `within_f64` and `within_f32`, once for both formats. Assumes nothing.
use Rattle.std.proofs.Common.{◌≡◌, ℕ, ◌*◌, ◌%◌, ◌<◌, ◌≤◌, Bool, true, false, not, T, sym, refl, subst}
use lib.Ieee.{Float, Format, binary32, binary64, hid, ones, top, le, of_bits, nan_bits}
use lib.Ieee.Bits.{nan_bits_is}
use Rattle.floats.specs.Range.{in_range}
use Rattle.floats.specs.Laws.Patterns.{special_bits, plain_bits, finite_no_nan, no_zero_bits}

module _ (f : Format) (lo hi : Float) (b : ℕ) where
  pub special : ones f * hid f ≤ b % top f → false ≡ in_range lo hi (of_bits f b)
  unfolding in_range
  special h = simp (special_bits f b h)

  pub zero : b ≡ top f → false ≡ in_range lo hi (of_bits f b)
  unfolding in_range of_bits
  zero e = subst (λ (z : ℕ). false ≡ in_range lo hi (of_bits f z)) (sym e) (go f)
    where
      go : (g : Format) → false ≡ in_range lo hi (of_bits g (top g))
      go binary32 = refl
      go binary64 = refl

  module _ (h : b % top f < ones f * hid f) where
    pub no_nan_bits : T (not (nan_bits f b))
    no_nan_bits = subst (λ (z : Bool). T (not z)) (sym (nan_bits_is f b)) (finite_no_nan (of_bits f b) (plain_bits f b h))

    module _ (small : b < 2 * top f) (n : b ≡ top f → ⊥) where
      pub by_the_top : le lo (of_bits f b) ≡ true → le (of_bits f b) hi ≡ in_range lo hi (of_bits f b)
      unfolding in_range
      by_the_top l = simp (plain_bits f b h, no_zero_bits f b small (plain_bits f b h) n, l)

      pub too_low : le lo (of_bits f b) ≡ false → false ≡ in_range lo hi (of_bits f b)
      unfolding in_range
      too_low l = simp (plain_bits f b h, no_zero_bits f b small (plain_bits f b h) n, l)
