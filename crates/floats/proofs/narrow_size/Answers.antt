-- `floats::narrow_size` meets its contract. `proofs/Nearest32.antt` has its four cases. Assumes nothing.
use Rattle.std.proofs.Common.{ℕ, ◌+◌, ◌-◌, ◌*◌, ◌^◌, ◌<◌, ◌≤◌, ap, ◌∙◌, arith, pow_pos}
use lib.Pow.{pow-lt}
use lib.Ieee.Nearest.{closest}
use Rattle.floats.proofs.Size.{shifted}
use Rattle.floats.proofs.Nearest32.{kept_small, at_top, at_mid, at_low, narrow_tiny}
use Rattle.floats.proofs.narrow_size.Goals as goal

pub overflow_add-result : goal.overflow_add-result
overflow_add-result c =
    let a = c.args in
    let h : c.nearest.result ≤ 2 ^ 24 = rw c.nearest.ensures (kept_small a.digits c.requires) in
    omega arith

pub nearest-requires-then-exponent-ge873 : goal.nearest-requires-then-exponent-ge873
nearest-requires-then-exponent-ge873 c =
    let j = 926 - c.args.exponent in
    let k : j < 54 = omega arith in
    let e = shifted j (omega arith) in
    (omega arith, rw e (pow-lt k), rw e (pow_pos j))

pub returns-then-exponent-ge1151 : goal.returns-then-exponent-ge1151
returns-then-exponent-ge1151 c = at_top _ _ c.requires c.if-exponent-ge1151.true

pub returns-then-exponent-ge897 : goal.returns-then-exponent-ge897
returns-then-exponent-ge897 c =
    let a = c.args in
    ap (λ (z : ℕ). (a.exponent - 897) * 2 ^ 23 + z) c.nearest.ensures
    ∙ at_mid a.exponent a.digits c.requires c.if-exponent-ge897.true c.if-exponent-ge1151.false

pub returns-then-exponent-ge873 : goal.returns-then-exponent-ge873
returns-then-exponent-ge873 c =
    let a = c.args in
    c.nearest-then-exponent-ge873.ensures
    ∙ ap (λ (z : ℕ). closest (2 ^ 52 + a.digits) z) (shifted (926 - a.exponent) (omega arith))
    ∙ at_low a.exponent a.digits c.requires c.if-exponent-ge873.true c.if-exponent-ge897.false

pub returns-else-exponent-ge873 : goal.returns-else-exponent-ge873
returns-else-exponent-ge873 c = narrow_tiny _ _ c.requires c.if-exponent-ge873.false
