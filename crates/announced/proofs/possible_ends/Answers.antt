-- `announced::possible_ends` meets its contract: each refusal is what the tests on the way to it pick, and the ends are those of the range's ends.
-- Assumes nothing.
use mathlib.Core.Path.{◌≡◌, sym, ◌∙◌, subst}
use Prim.Native.Nat.{◌<◌}
use native.Mathlib.Nat.{pos_of_ne-zero}
use borrow.Author.Tests.{ne_eqb, lt-ltb, le-ltb}
use lib.Dec.{T, lit<}
use lib.Ieee.{Float}
use Rattle.std.proofs.lemmas.Result.{err_from_is_err_and}
use Rattle.rules.specs.Laws.Coded.{code_some}
use Rattle.rules.specs.Coded.{code}
use Rattle.rules.specs.declared.Refusal.{Refusal}
use Rattle.announced.specs.declared.Bounds.{Bounds}
use Rattle.announced.specs.declared.Slider.{Slider}
use Rattle.announced.specs.Announced.{rest_refusal, ends_refusal}
use Rattle.announced.specs.Laws.{ends_from}
use Rattle.announced.proofs.possible_ends.Goals as goal

refused : (slider : Slider) (range : Bounds Float) (r : Refusal) → code r ≡ rest_refusal slider → (ends_refusal slider range ≡ code r) × (0 < code r)
unfolding ends_refusal
refused slider range r e = (rw (← e, ne_eqb (code r) 0 (code_some r)), pos_of_ne-zero (code_some r))

pub returns-in_err-rest_refusal : goal.returns-in_err-rest_refusal
returns-in_err-rest_refusal c =
    let p = err_from_is_err_and c.from_residual.result c.from_residual.ensures.1 in
    rw (p.1, p.2) (refused _ _ _ c.in_err-rest_refusal.ensures)

pub returns-then-not-distance_fits : goal.returns-then-not-distance_fits
unfolding ends_refusal
returns-then-not-distance_fits c =
    (rw (← c.in_ok-rest_refusal.ensures, ← c.distance_fits.ensures, c.if-not-distance_fits.true), lit< tt)

pub returns-then-latest-gt-LATEST_END : goal.returns-then-latest-gt-LATEST_END
unfolding ends_refusal
returns-then-latest-gt-LATEST_END c =
    (rw (← c.in_ok-rest_refusal.ensures, ← c.distance_fits.ensures, c.if-not-distance_fits.false, ← c.end_at-latest.ensures, lt-ltb _ _ c.if-latest-gt-LATEST_END.true), lit< tt)

pub returns : goal.returns
unfolding ends_refusal
returns c =
    let g = c.well_formed.1.0.1.1 in (
      rw (← c.in_ok-rest_refusal.ensures, ← c.distance_fits.ensures, c.if-not-distance_fits.false, ← c.end_at-latest.ensures, le-ltb _ _ c.if-latest-gt-LATEST_END.false),
      rw (c.end_at-earliest.ensures, c.end_at-latest.ensures)
          (ends_from _ _ (sym c.in_ok-rest_refusal.ensures) (sym c.distance_fits.ensures ∙ c.if-not-distance_fits.false) (subst T (sym g.0.1) tt) (subst T (sym g.1.0.1) tt)),
    )
