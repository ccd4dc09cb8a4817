-- `points::timing_point_at` meets its contract. Assumes nothing.
use mathlib.Core.Path.{sym, ◌∙◌}
use native.Mathlib.Omega.{arith}
use lib.Ieee.{round, size, span, climb, units, odd, of_bits, of_fields}
use Rattle.points.proofs.Lookups.{found_of, rising_rest, beat_default, beat_at_law}
use Rattle.points.proofs.timing_point_at.Goals as goal

-- without points the default lasts
pub returns-then-list-eq0 : goal.returns-then-list-eq0
unfolding round size span climb units odd of_bits of_fields
returns-then-list-eq0 c =
    let none = c.if-list-eq0.true in
    (sym (beat_default _ _ _ c.args.t none), record { known = c.requires.1.known; same = (λ u w. sym (beat_default _ _ _ u none)) })

pub newly_passed-requires : goal.newly_passed-requires
newly_passed-requires c = (rising_rest _ _ _ c.requires.0, c.requires.1.known)

pub returns : goal.returns
returns c = found_of _ _ _ _ _ _ (λ u e. c.f64_at-value.ensures ∙ sym (beat_at_law _ _ _ u _ e (omega arith))) c.in-Some.ensures
