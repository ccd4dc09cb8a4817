-- What the patterns ask, from what a slider has. Assumes nothing.
use mathlib.Core.Path.{◌≡◌, ap, ◌∙◌}
use Prim.Native.Nat.{ℕ, ◌+◌, ◌*◌, ◌≤◌, ◌<◌}
use native.Mathlib.Nat.{mul-le-mul_right, mul_comm, one-mul, add-mul}
use native.Mathlib.Omega.{arith}
use Rattle.model.specs.Limits.{most_long_spans}
use Rattle.mania.specs.declared.PathObjectPatternGenerator.{PathObjectPatternGenerator}
use Rattle.mania.specs.PathObject.{latest}
use Rattle.slider_patterns.specs.Parts.{Fits}
use Rattle.path_object.specs.Parts.{Ready}

-- long spans of a short slider are few
pub few_spans : (length spans : ℕ) → 160 < length → length * spans ≤ 3999 → spans ≤ most_long_spans
few_spans length spans h k =
    let l : 161 * spans ≤ length * spans = mul-le-mul_right spans h in
    omega arith

-- what the generators ask of more than one column
pub fits : (g : PathObjectPatternGenerator) → Ready g → g.end ≤ latest → (g.columns ≡ 1 → ⊥) → Fits g
fits g r l n =
    let once : 1 * g.length ≤ g.spans * g.length = mul-le-mul_right g.length r.one in
    let all : (g.spans + 1) * g.length ≡ g.spans * g.length + g.length = add-mul g.spans 1 g.length ∙ ap (λ (x : ℕ). g.spans * g.length + x) (one-mul g.length) in
    let turn : g.length * g.spans ≡ g.spans * g.length = mul_comm g.length g.spans in
    let one : 1 * g.length ≡ g.length = one-mul g.length in
    record {
      low = two g.columns r.low n;
      high = r.high;
      times = omega (arith, r.share, r.early);
      ends = omega arith;
      one = r.one;
      spans = r.spans;
    }
  where
    two : (c : ℕ) → 1 ≤ c → (c ≡ 1 → ⊥) → 2 ≤ c
    two c h k = omega arith
