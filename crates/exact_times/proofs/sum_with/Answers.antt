-- `exact_times::sum_with` meets its contract: a law for each answer.
-- Assumes nothing.
use borrow.Author.Rules.{rules}
use mathlib.Core.Path.{◌∙◌}
use Prim.Native.Nat.{ℕ, ◌-◌}
use native.Mathlib.Omega.{arith}
use lib.Pow.{shl_exact}
use Rattle.exact_times.specs.Digits.{power_of}
use Rattle.exact_times.specs.Laws.Sums.{below, beyond, short, left_over, power_mono}
use Rattle.exact_times.proofs.sum_with.Goals as goal

pub returns-then-e-p : goal.returns-then-e-p
returns-then-e-p c = below _ _ _ _ c.requires.0 c.requires.1 c.requires.2 (search rules)

pub returns-then-k-gt1 : goal.returns-then-k-gt1
returns-then-k-gt1 c = beyond _ _ _ _ c.requires.0 c.requires.1 c.requires.2 (omega (arith, c.power-p.ensures))

pub returns-then-all-first : goal.returns-then-all-first
returns-then-all-first c =
    let k : ℕ = c.args.e - c.power-p.result in
    let all = shl_exact {a = c.args.m} 53 k 64 c.requires.2.few (search rules) in
    short _ _ _ _ c.requires.0 c.requires.1 c.requires.2 k (search rules) (rw all at (rw c.digits-first.ensures at c.if-all-first.true))

pub overflow_sub-p : goal.overflow_sub-p
overflow_sub-p c =
    rw (c.power.ensures, c.power-p.ensures) (power_mono _ _ c.requires.1)

pub returns : goal.returns
returns c =
    let k : ℕ = c.args.e - c.power-p.result in
    let all = shl_exact {a = c.args.m} 53 k 64 c.requires.2.few (search rules) in
    let first = c.digits-first.ensures in
    let enough = rw (all, first, c.power-p.ensures) at c.if-all-first.false in
    c.against.ensures
    ∙ rw (all, first, c.digits.ensures, c.power.ensures, c.power-p.ensures)
    (left_over _ _ _ _ c.requires.0 c.requires.1 c.requires.2 (c.args.e - power_of c.args.a) (omega (arith, c.power-p.ensures)) enough)
