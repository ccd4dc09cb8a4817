-- Whether a separation is under 20, by the sum of the squares alone. Assumes nothing.
use Rattle.std.specs.Prelude.{◌≡◌, refl, false, ◌*◌, ◌^◌, T, Float}
use Rattle.std.proofs.Common.{lit<, lit≤}
use Rattle.std.specs.Float.{binary32}
use Rattle.std.specs.Float.Ieee.{fits, lt, of_bits, mul, add, round}
use Rattle.std.specs.Float.Ieee.Exact.{HasValue}
use Rattle.std.specs.Float.Ieee.Fits.{add-fits}
use Rattle.floats.specs.Root.{root}
use Rattle.floats.proofs.Laws.Squares.{clear, clear_square, clear_add, root_under_bits}
use Rattle.mania.specs.Steps.{single}

-- 20 in units of the smallest f32
twenty : HasValue (single 20 1) false (10485760 * 2 ^ 130) (2 ^ 149)
unfolding round
twenty = (refl, refl)

-- 400 - 2 ^ -15, the least f32 whose root is 20
abbrev pub bound : Float
bound = of_bits binary32 1137180671

-- The pattern before it is that of 400 - 2 ^ -14. The middle between 20 and the f32 before 20 has its square between the two.
pub under_20 : (x : Float) → T (fits binary32 x) → T (clear x) → lt (root binary32 x) (single 20 1) ≡ lt x bound
under_20 x f s =
    root_under_bits binary32 x (single 20 1) 1137180670 10485759 130 f s twenty refl (lit≤ tt) (lit< tt) (lit≤ tt) (lit< tt) (lit< tt) (lit≤ tt)

pub sum_under_20 : (dx dy : Float)
    → lt (root binary32 (add binary32 (mul binary32 dx dx) (mul binary32 dy dy))) (single 20 1) ≡ lt (add binary32 (mul binary32 dx dx) (mul binary32 dy dy)) bound
sum_under_20 dx dy =
    let p = mul binary32 dx dx in
    let q = mul binary32 dy dy in
    under_20 (add binary32 p q) (add-fits binary32 p q) (clear_add binary32 p q (clear_square binary32 dx) (clear_square binary32 dy))
