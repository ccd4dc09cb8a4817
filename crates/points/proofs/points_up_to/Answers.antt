-- `points::points_up_to` meets its contract. The loop's invariant: as many points are passed at t, and at any time at which `from` is. Assumes nothing.
use mathlib.Core.Path.{◌≡◌}
use Prim.Native.Nat.{ℕ, ◌*◌, ◌≤◌}
use mathlib.Core.List.{List}
use lib.Ieee.{Float}
use native.Mathlib.Omega.{arith}
use Rattle.record.specs.declared.section.Section.{Section}
use Rattle.record.specs.Section.{width_of}
use Rattle.record.specs.Laws.Widths.{width_le}
use Rattle.points.specs.Lasting.{passed, Reached, NumberLasts}
use Rattle.points.proofs.Lookups.{amount, near, reached_at, reached_up, found_before, found_after}
use Rattle.points.proofs.points_up_to.Goals as goal
use Rattle.points.proofs.points_up_to.Goals.{In-loop-number, then-from-t, else-from-t}

pub loop-number-init : goal.loop-number-init
loop-number-init c =
    let a = c.args in
    let w = c.width-width.ensures in
    let at = reached_at a.section a.list.s.now a.list.at a.list.count _ w a.p.number in (
      elim c.if-from-t.branch [ then-from-t b ↦ omega arith | else-from-t b ↦ omega arith ],
      rw w (width_le a.section),
      elim c.if-from-t.branch [ then-from-t b ↦ omega (arith, at a.t (c.requires.1.1 a.t b.if-from-t.true)) | else-from-t b ↦ omega arith ],
      (λ u h. elim c.if-from-t.branch [ then-from-t b ↦ omega (arith, at u (c.requires.1.1 u h)) | else-from-t b ↦ omega arith ]),
    )

small : (c : In-loop-number) → c.width-width.result * c.loop-number.number ≤ 524160
small c = near _ _ c.loop-number.invariant.1 (omega (arith, c.args.list.few))

pub overflow_mul-width : goal.overflow_mul-width
overflow_mul-width c = omega (arith, small (goal.at.overflow_mul-width c).In-loop-number)

pub overflow_add-list : goal.overflow_add-list
overflow_add-list c = omega (arith, small (goal.at.overflow_add-list c).In-loop-number, c.args.list.near)

pub f64_at-time-requires : goal.f64_at-time-requires
f64_at-time-requires c = omega (arith, small (goal.at.f64_at-time-requires c).In-loop-number, c.args.list.near)

pub returns-then-not-time-t : goal.returns-then-not-time-t
returns-then-not-time-t c =
    let l = c.loop-number in
    let a = c.args in
    found_before a.section a.list.s.now a.list.at a.list.count _ c.width-width.ensures l.number _ _ l.invariant.3 (omega arith) c.f64_at-time.ensures a.t l.invariant.2
    c.if-not-time-t.true

pub loop-number-preserved : goal.loop-number-preserved
loop-number-preserved c =
    let l = c.loop-number in
    let a = c.args in
    let more = reached_up a.section a.list.s.now a.list.at a.list.count _ c.width-width.ensures l.number c.requires.0 (omega arith) _ c.f64_at-time.ensures in
    (omega arith, l.invariant.1, more a.t c.if-not-time-t.false, more)

-- after the last point, with its number as the count
all_passed : (k : Section) (s : List ℕ) (p n w : ℕ) → w ≡ width_of k → (r : ℕ) (from until : Float) → Reached (amount s w p n) r from → r ≡ n → (t : Float)
    → r ≤ amount s w p n t → (n ≡ passed k s p n t) × NumberLasts k s p n (record { number = n; from = from; until = until })
all_passed k s p n w e r from until reached l t h = rw l at (found_after k s p n w e r from until reached l t h)

pub returns : goal.returns
returns c =
    let l = c.loop-number in
    let a = c.args in
    all_passed a.section a.list.s.now a.list.at a.list.count _ c.width-width.ensures l.number _ _ l.invariant.3 (omega arith) a.t l.invariant.2
