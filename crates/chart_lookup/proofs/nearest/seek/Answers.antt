-- `chart_lookup::nearest::seek` meets its contract: a case for each test of `seeking`.
-- Assumes nothing.
use mathlib.Core.Path.{◌≡◌, refl}
use mathlib.Core.Bool.{true}
use lib.Ieee.Scale.{finite}
use borrow.Author.Tests.{le-ltb, lt-ltb}
use Rattle.std.proofs.lemmas.Result.{err_from_is_err_and}
use Rattle.rules.specs.declared.Refusal.TheVariants.{Times}
use Rattle.chart_lookup.specs.Nearest.{seeking}
use Rattle.chart_lookup.proofs.nearest.seek.Goals as goal
use Rattle.chart_lookup.proofs.nearest.seek.Goals.{In_ok-at}

same : (c : In_ok-at) → c.in_ok-at.at.t ≡ c.args.t
same c = rw c.in_ok-at.ensures.ok_part at c.new.ensures

known : (c : In_ok-at) → finite c.args.t ≡ true
known c = rw (same c) at c.in_ok-at.at.is_finite

pub returns-in_err-at : goal.returns-in_err-at
unfolding seeking
returns-in_err-at c =
    let p = err_from_is_err_and c.from_residual.result c.from_residual.ensures.1 in
    let value = rw c.in_err-at.ensures.ok_part at c.in_err-at.ensures.value in
    let number : c.in_err-at.field-0.0 ≡ Times = cc in
    let off = rw c.in_err-at.ensures.ok_part at c.new.ensures in
    rw (off, p.1, p.2, number) refl

pub returns-then-column-columns : goal.returns-then-column-columns
unfolding seeking
returns-then-column-columns c = rw (known (goal.at.returns-then-column-columns c).In_ok-at, le-ltb _ _ c.if-column-columns.true) refl

pub returns : goal.returns
unfolding seeking
returns c = rw (known (goal.at.returns c).In_ok-at, lt-ltb _ _ c.if-column-columns.false, ← (same (goal.at.returns c).In_ok-at)) c.nearest_of.ensures
