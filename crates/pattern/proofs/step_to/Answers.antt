-- `pattern::step_to` meets its contract. The invariant: the steps that are left come to what all come to. Assumes nothing.
use mathlib.Core.Path.{◌≡◌, sym, ap, ◌∙◌}
use Prim.Native.Nat.{ℕ, ◌+◌, ◌-◌, ◌<◌}
use native.Mathlib.Omega.{arith}
use Rattle.random.specs.Play.{on}
use Rattle.mania.specs.PatternGenerator.{step_to}
use Rattle.pattern.specs.Laws.Searches.{next_lt, step_hit, step_miss, step_out}
use Rattle.pattern.proofs.step_to.Goals as goal
use Rattle.pattern.proofs.step_to.Goals.{After-next_column-column}

pub loop-init : goal.loop-init
loop-init c =
    let a = c.args in
    let e : a.s.columns - 0 ≡ a.s.columns = omega arith in
    (omega arith, ap (λ (n : ℕ). on (step_to n a.s.columns a.s.taken a.s.initial) a.d) e)

small : (c : After-next_column-column) → c.next_column-column.result < c.args.s.columns
small c = rw c.next_column-column.ensures (next_lt _ _ c.loop.invariant.0)

pub is_free-requires : goal.is_free-requires
is_free-requires c = omega (arith, small (goal.at.is_free-requires c).After-next_column-column)

pub returns-then-is_free : goal.returns-then-is_free
returns-then-is_free c =
    let l = c.loop in
    sym (step_hit _ _ _ _ _ _ (omega (arith, c.loop-test.true)) c.next_column-column.ensures (sym c.is_free.ensures ∙ c.if-is_free.true)) ∙ l.invariant.1

pub loop-preserved : goal.loop-preserved
loop-preserved c =
    let a = c.args in
    let l = c.loop in
    let column = c.next_column-column.result in
    let e : a.s.columns - (l.counter + 1) ≡ a.s.columns - l.counter - 1 = omega arith in (
      small (goal.at.loop-preserved c).After-next_column-column,
      ap (λ (n : ℕ). on (step_to n a.s.columns a.s.taken column) a.d) e
          ∙ sym (step_miss _ _ _ _ _ _ (omega (arith, c.loop-test.true)) c.next_column-column.ensures (sym c.is_free.ensures ∙ c.if-is_free.false)) ∙ l.invariant.1,
    )

pub returns : goal.returns
returns c = sym (step_out _ _ _ _ _ (omega (arith, c.loop-test.false))) ∙ c.loop.invariant.1
