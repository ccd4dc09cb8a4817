-- `circle_notes::mirror_from` meets its contract: a column, the pairs, the centre and the special column, one after the other. Assumes nothing.
use mathlib.Core.Path.{sym, ap, subst, ◌∙◌}
use Prim.Native.Nat.{◌/◌, ◌<◌}
use native.Mathlib.Omega.{arith}
use Rattle.random.specs.Answers.{number}
use Rattle.random.specs.Laws.Try.{goes_on}
use Rattle.mania.specs.PatternGenerator.{get_random_column}
use Rattle.mania.specs.HitObject.{add_mirrored, add_centre, mirror_from}
use Rattle.mania.proofs.Columns.{start_small}
use Rattle.pattern.specs.Answers.{AtMost}
use Rattle.pattern.specs.Laws.Bounds.{drawn_lt}
use Rattle.pattern.specs.Laws.Exits.{leaves_placed}
use Rattle.circle_notes.proofs.mirror_from.Goals as goal
use Rattle.circle_notes.proofs.mirror_from.Goals.{After-random_start-low}

-- the first column of the search is in the left half
low : (c : After-random_start-low) → c.random_start-low.result < c.args.circle.g.columns / 2
low c = rw c.random_start-low.ensures (start_small _ (omega arith))

pub get_random_column-requires : goal.get_random_column-requires
get_random_column-requires c = (low (goal.at.get_random_column-requires c).After-random_start-low, omega arith)

pub returns-in_err-c : goal.returns-in_err-c
unfolding mirror_from
returns-in_err-c c =
    rw (← c.random_start-low.ensures) (leaves_placed _ (get_random_column _ _) _ _ _ _ _ _ _ _ c.get_random_column.ensures c.in_err-c.was c.from_residual.ensures.1)

pub add_mirrored-requires : goal.add_mirrored-requires
add_mirrored-requires c =
    let small : c.in_ok-c.c < c.args.circle.g.columns / 2 = drawn_lt _ _ (low (goal.at.add_mirrored-requires c).After-random_start-low) _ _ _ (sym c.get_random_column.ensures ∙ ap number c.in_ok-c.was) in
    omega (arith, small)

pub returns-in_err-p : goal.returns-in_err-p
unfolding mirror_from
returns-in_err-p c =
    let x = leaves_placed _ (add_mirrored _ _ _ _) _ _ _ _ _ _ _ _ c.add_mirrored.ensures.0 c.in_err-p.was c.from_residual-in_err-p.ensures.1 in
    rw (← c.random_start-low.ensures) (x.0 ∙ sym (goes_on _ (get_random_column _ _) _ _ _ _ _ c.get_random_column.ensures c.in_ok-c.was), x.1)

pub add_centre-requires : goal.add_centre-requires
add_centre-requires c = omega (arith, subst (AtMost _) c.in_ok-p.was c.add_mirrored.ensures.1)

pub returns-in_err-q : goal.returns-in_err-q
unfolding mirror_from
returns-in_err-q c =
    let x = leaves_placed _ (add_centre _ _ _) _ _ _ _ _ _ _ _ c.add_centre.ensures.0 c.in_err-q.was c.from_residual-in_err-q.ensures.1 in
    rw (← c.random_start-low.ensures) (
      x.0
          ∙ sym
          (goes_on _ (get_random_column _ _) _ _ _ _ _ c.get_random_column.ensures c.in_ok-c.was ∙ goes_on _ (add_mirrored _ _ _ _) _ _ _ _ _ c.add_mirrored.ensures.0 c.in_ok-p.was),
      x.1,
    )

pub add_special-requires : goal.add_special-requires
add_special-requires c =
    omega (arith, subst (AtMost _) c.in_ok-q.was c.add_centre.ensures.1, c.add_mirrored.auto.words, c.add_centre.auto.words)

pub returns : goal.returns
unfolding mirror_from
returns c =
    let k = c.add_special.ensures in (
      k.0
          ∙ sym
          (rw (← c.random_start-low.ensures)
          (goes_on _ (get_random_column _ _) _ _ _ _ _ c.get_random_column.ensures c.in_ok-c.was ∙ goes_on _ (add_mirrored _ _ _ _) _ _ _ _ _ c.add_mirrored.ensures.0 c.in_ok-p.was
          ∙ goes_on _ (add_centre _ _ _) _ _ _ _ _ c.add_centre.ensures.0 c.in_ok-q.was)),
      k.1,
    )
