-- The product 2 ^ -31 * v of floats is v / 2 ^ 31, and nothing is lost. Assumes nothing.
use Rattle.std.specs.Prelude.{◌≡◌, refl, ℕ, ◌*◌, ◌^◌, ◌<◌, Bool, false, pos, negsuc, Float}
use Rattle.std.proofs.Common.{sym, ap, ◌∙◌, mul-one, mul_comm, mul_assoc, one-mul, mul-pos, lt_of_lt_of_le, arith, lit≤, pow_pos, pow_mono, shl_lt}
use Rattle.std.specs.Float.{fin, inf, nan, binary64}
use Rattle.std.specs.Float.Ieee.{round, mul, of_int, of_bits, odd, up, down, unlike}
use Rattle.std.specs.Float.Ieee.Exact.{HasValue, round_exact}
use Rattle.std.specs.Float.Ieee.Back.{round_whole}
use Rattle.std.specs.Float.Ieee.Fits.{down_pos}
use Rattle.std.specs.Float.Ieee.Scale.{round_same}
use Rattle.random.specs.Generator.{unit}

pub unit_exact : (v : ℕ) → v < 2 ^ 32 → HasValue (unit v) false v (2 ^ 31)
unfolding unit
unit_exact v h = round_exact binary64 false v (2 ^ 31) v 1043 (pow_pos 31) (omega arith) (lt_of_lt_of_le (shl_lt 32 1043 h) (pow_mono {i = 1075} {j = 2098} (lit≤ tt))) (sym (mul_assoc v (2 ^ 1043) (2 ^ 31)))

shrunk : (x : Float) (v : ℕ) → HasValue x false v 1 → mul binary64 (fin false 1 (negsuc 30)) x ≡ unit v
unfolding mul unit
shrunk (fin s m e) v h = ap (λ (b : Bool). round binary64 (unlike false b) (1 * (m * up e)) (2 ^ 31 * down e)) h.0 ∙ round_same binary64 false (1 * (m * up e)) (2 ^ 31 * down e) v (2 ^ 31) (mul-pos (pow_pos 31) (down_pos e)) (pow_pos 31) same
  where
    same : 1 * (m * up e) * 2 ^ 31 ≡ v * (2 ^ 31 * down e)
    same =
        ap (λ (n : ℕ). n * 2 ^ 31) (one-mul (m * up e) ∙ sym (mul-one (m * up e)) ∙ h.1)
        ∙ mul_assoc v (down e) (2 ^ 31)
        ∙ ap (λ (n : ℕ). v * n) (mul_comm (down e) (2 ^ 31))
shrunk nan v h = elim h [ ]
shrunk (inf _) v h = elim h [ ]

of_bits_law : of_bits binary64 4467570830351532032 ≡ fin false 1 (negsuc 30)
unfolding of_bits odd
of_bits_law = refl

-- 4467570830351532032 is the bit pattern of 2 ^ -31
pub product_is : (v : ℕ) → v < 2 ^ 32 → mul binary64 (of_bits binary64 4467570830351532032) (of_int binary64 (pos v)) ≡ unit v
unfolding of_int
product_is v h = ap (λ (x : Float). mul binary64 x (round binary64 false v 1)) of_bits_law ∙ shrunk (round binary64 false v 1) v (round_whole binary64 false v (omega arith))
