-- `announced::gather` meets its contract. The loop's invariant: the mask has the columns of the ods passed. Assumes nothing.
use mathlib.Core.Path.{◌≡◌, sym, ◌∙◌}
use Prim.Native.Nat.{ℕ, suc, ◌+◌, ◌-◌, ◌^◌, ◌≤◌, ◌<◌}
use native.Mathlib.Nat.{le_refl}
use native.Mathlib.Omega.{arith}
use lib.Bits.{bit_or}
use Rattle.mania.proofs.Demand.{at_deck}
use Rattle.announced.specs.Gathered.{gathered, gathered_none, gathered_next}
use Rattle.announced.proofs.gather.Goals as goal
use Rattle.announced.proofs.gather.Goals.{After-with_column-mask}

small : {r n : ℕ} → r ≡ n → n ≤ 9 → r < 16
small e h = omega arith

joined : {r f a b m A B M : ℕ} → r ≡ bit_or f (2 ^ b) → f ≡ bit_or m (2 ^ a) → a ≡ A → b ≡ B → m ≡ M → r ≡ bit_or (bit_or M (2 ^ A)) (2 ^ B)
joined p q x y z = cc

pub loop-od-init : goal.loop-od-init
loop-od-init c = (le_refl c.args.from, gathered_none _ _ _ _ _)

pub with_column-first-requires : goal.with_column-first-requires
with_column-first-requires c = small c.columns_at-a.ensures (at_deck _ _ _ _).1

pub with_column-mask-requires : goal.with_column-mask-requires
with_column-mask-requires c = small c.columns_at-b.ensures (at_deck _ _ _ _).1

-- one od more
next : (c : After-with_column-mask) → c.with_column-mask.result ≡ gathered c.args.long c.args.objects c.args.low c.args.high c.args.from (c.loop-od.od + 1 - c.args.from)
next c =
    let l = c.loop-od in
    joined c.with_column-mask.ensures c.with_column-first.ensures c.columns_at-a.ensures c.columns_at-b.ensures l.invariant.1
    ∙ sym (gathered_next _ _ _ _ _ l.od l.invariant.0)

pub loop-od-preserved : goal.loop-od-preserved
loop-od-preserved c = (omega arith, next (goal.at.loop-od-preserved c).After-with_column-mask)

pub returns : goal.returns
returns c =
    let l = c.loop-od in
    let a = c.args in
    let e : suc a.to - a.from ≡ l.od - a.from = omega arith in
    rw e l.invariant.1

pub returns-2 : goal.returns-2
returns-2 c =
    let e : suc c.args.to - c.args.from ≡ c.loop-od.od + 1 - c.args.from = omega arith in
    rw e (next (goal.at.returns-2 c).After-with_column-mask)
