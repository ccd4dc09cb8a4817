-- `chart::bytes::get` meets its contract. The invariant: x is the number in the first i bytes, and below 256 ^ i.
-- Assumes nothing.
use mathlib.Core.Path.{◌≡◌, refl, ◌∙◌}
use Prim.Native.Nat.{ℕ, ◌+◌, ◌-◌, ◌^◌, ◌≤◌, ◌<◌}
use native.Mathlib.Nat.{pow-le-pow_right, pow-suc}
use native.Mathlib.Numerals.{add-one}
use native.Mathlib.Omega.{arith}
use lib.Dec.{lit<}
use lib.ListN.{drop, get_or}
use Rattle.std.proofs.lemmas.List.{get_or-take}
use borrow.Author.Rules.{rules}
use Rattle.chart.specs.Bytes.{num}
use Rattle.chart.specs.Laws.Bytes.{num_suc}
use Rattle.chart.proofs.bytes.get.Goals as goal

-- there is room for one more byte
room : (i size x : ℕ) → i < size → size ≤ 8 → x < 256 ^ i → x < 2 ^ 56
room i size x l m h = omega (arith, pow-le-pow_right {n = 256} (lit< tt) {i = i} {j = 7} (omega arith))

pub loop-b-init : goal.loop-b-init
unfolding num
loop-b-init c = (refl, omega arith)

pub overflow_mul-x : goal.overflow_mul-x
overflow_mul-x c = omega (arith, room c.loop-b.b-index c.args.size c.loop-b.x (search rules) (search rules) (search rules))

pub overflow_add-x : goal.overflow_add-x
overflow_add-x c = omega (arith, room c.loop-b.b-index c.args.size c.loop-b.x (search rules) (search rules) (search rules))

pub loop-b-preserved : goal.loop-b-preserved
loop-b-preserved c =
    let a = c.args in
    let below : c.loop-b.b-index < a.at + a.size - a.at = search rules in
    let byte : c.wide.result ≡ get_or (drop a.at a.s.now) c.loop-b.b-index 0 = c.wide.ensures.0 ∙ get_or-take (a.at + a.size - a.at) (drop a.at a.s.now) c.loop-b.b-index 0 below in
    (rw (add-one c.loop-b.b-index, num_suc c.loop-b.b-index (drop a.at a.s.now)) (cc), rw (add-one c.loop-b.b-index, pow-suc 256 c.loop-b.b-index) (omega arith))
