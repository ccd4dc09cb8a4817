-- `bits::joined` meets its contract: v is below 2 ^ (64 - k), so with k bits more it is below 2 ^ 64.
-- Assumes nothing.
use mathlib.Core.Path.{◌≡◌, subst}
use Prim.Native.Nat.{ℕ, ◌+◌, ◌-◌, ◌*◌, ◌^◌, ◌≤◌, ◌<◌}
use native.Mathlib.Nat.{mod-lt}
use native.Mathlib.Omega.{arith}
use lib.Pow.{pow_pos, pow-add}
use lib.Arith.{digits_lt}
use Rattle.bits.proofs.joined.Goals as goal

-- v with k bits more, r, fits
fits : (v r k : ℕ) → k ≤ 64 → v < 2 ^ (64 - k) → r < 2 ^ k → v * 2 ^ k + r < 2 ^ 64
fits v r k h a b =
    let e : 64 - k + k ≡ 64 = omega arith in
    let q : 2 ^ (64 - k) * 2 ^ k ≡ 2 ^ 64 = rw (← pow-add, e) in
    subst (λ (n : ℕ). v * 2 ^ k + r < n) q (digits_lt a b)

pub overflow_mul-result : goal.overflow_mul-result
overflow_mul-result c =
    rw c.power-p.ensures (omega (arith, fits c.args.v 0 c.args.k (omega arith) c.requires.2 (pow_pos c.args.k)))

pub overflow_add-result : goal.overflow_add-result
overflow_add-result c =
    rw c.power-p.ensures (record { fits = fits c.args.v _ c.args.k (omega arith) c.requires.2 (mod-lt _ (pow_pos c.args.k)) })
