-- `points::difficulty_point_at` meets its contract. Assumes nothing.
use mathlib.Core.Path.{sym, ◌∙◌}
use lib.Ieee.{round, size, span, climb, units, odd, of_bits, of_fields}
use Rattle.points.proofs.Lookups.{found_of, velocity_first, velocity_last}
use Rattle.points.proofs.difficulty_point_at.Goals as goal

pub returns-then-passed-eq0 : goal.returns-then-passed-eq0
unfolding round size span climb units odd of_bits of_fields
returns-then-passed-eq0 c = found_of _ _ _ _ _ _ (λ u e. sym (velocity_first _ _ _ u _ e c.if-passed-eq0.true)) c.in-Some.ensures

pub returns-else-passed-eq0 : goal.returns-else-passed-eq0
returns-else-passed-eq0 c = found_of _ _ _ _ _ _ (λ u e. c.f64_at-value.ensures ∙ sym (velocity_last _ _ _ u _ e c.if-passed-eq0.false)) c.in-Some.ensures
