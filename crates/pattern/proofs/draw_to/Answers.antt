-- `pattern::draw_to` meets its contract. Invariant: the search ends from here as it ends from its start. Assumes nothing.
use mathlib.Core.Path.{◌≡◌, sym, ap, ◌∙◌}
use Prim.Native.Nat.{ℕ, ◌+◌}
use native.Mathlib.Omega.{arith}
use Rattle.std.proofs.Common.{ap₂, rules, tests}
use Rattle.random.specs.Play.{found, refused, searched, value, on}
use Rattle.random.specs.declared.Draws.{Draws}
use Rattle.random.specs.Answers.{number}
use Rattle.random.specs.Laws.Took.{took_small, refused_draw}
use Rattle.random.specs.Laws.Try.{exit}
use Rattle.random.specs.Laws.Range.{between_lt}
use Rattle.rules.specs.Numbers as Numbers
use Rattle.rules.specs.Coded.{code}
use Rattle.model.specs.Limits.{search_limit}
use Rattle.pattern.specs.Laws.Searches.{draw_start, draw_hit, draw_miss, draw_out, draw_over}
use Rattle.pattern.specs.Laws.Mapped.{kept, mapped}
use Rattle.pattern.proofs.draw_to.Goals as goal
use Rattle.pattern.proofs.draw_to.Goals.{In_ok-v}

pub loop-made-init : goal.loop-made-init
loop-made-init c = draw_start _ _ _ _

-- none is left
pub returns-in_err-v : goal.returns-in_err-v
returns-in_err-v c =
    let l = c.loop-made in
    let t = mapped _ _ _ c.map_err.ensures.cases _ c.in_err-v.was in
    let w = sym c.draw.ensures ∙ ap number t.1 in
    let n = refused_draw l.rest _ _ w in
    let k : (c.in_err-v.field-0.0.refusal ≡ t.0.refusal) × (c.in_err-v.field-0.0.draws ≡ searched l.made-counter t.0.draws) = search (rules, tests) in
    exit _ _ _ c.from_residual.ensures.1
    ∙ ap₂ (λ (x : ℕ) (e : Draws). refused x e) (ap code k.0 ∙ n.0) (k.1 ∙ ap (searched l.made-counter) n.1)
    ∙ sym (draw_out _ _ _ _ _ c.loop-made-test.true _ _ w) ∙ l.invariant

-- what the draw gave, in the rule's words
got : (c : In_ok-v) → on value c.loop-made.rest ≡ found c.in_ok-v.v c.in_ok-v.next
got c = sym c.draw.ensures ∙ ap number (kept _ _ _ c.map_err.ensures.cases _ c.in_ok-v.was)

pub next_int_range-column-requires : goal.next_int_range-column-requires
next_int_range-column-requires c = (took_small _ _ _ (got (goal.at.next_int_range-column-requires c).In_ok-v), omega arith, omega arith)

pub is_free-requires : goal.is_free-requires
is_free-requires c =
    let a = c.args in
    omega (arith, between_lt {lower = a.s.lower} {upper = a.s.upper} (took_small _ _ _ (got (goal.at.is_free-requires c).In_ok-v)) (omega arith))

-- a free column
pub returns-then-is_free : goal.returns-then-is_free
returns-then-is_free c =
    ap (λ (d : Draws). found (record { column = c.next_int_range-column.result; draws = c.loop-made.made-counter + 1 }) d) c.after_search-after.ensures
    ∙ sym (draw_hit _ _ _ _ _ c.loop-made-test.true _ _ _ (got (goal.at.returns-then-is_free c).In_ok-v) c.next_int_range-column.ensures (sym c.is_free.ensures ∙ c.if-is_free.true))
    ∙ c.loop-made.invariant

-- a column that is taken
pub loop-made-preserved : goal.loop-made-preserved
loop-made-preserved c =
    sym (draw_miss _ _ _ _ _ c.loop-made-test.true _ _ _ (got (goal.at.loop-made-preserved c).In_ok-v) c.next_int_range-column.ensures (sym c.is_free.ensures ∙ c.if-is_free.false))
    ∙ c.loop-made.invariant

-- a draw beyond the limit
pub returns : goal.returns
returns c =
    let l = c.loop-made in
    let e : l.made-counter ≡ search_limit = omega (arith, c.loop-made-test.false, l.auto.made-counter-end) in
    rw (c.search_refused.ensures.0, c.search_refused.ensures.1)
    (ap (λ (n : ℕ). refused Numbers.long_search (searched n l.rest)) (sym e) ∙ sym (draw_over _ _ _ _ _ c.loop-made-test.false) ∙ l.invariant)
