-- `points::effect_point_at` meets its contract. Assumes nothing.
use mathlib.Core.Path.{sym, ◌∙◌}
use Rattle.points.proofs.Lookups.{found_of, kiai_first, kiai_last}
use Rattle.points.proofs.effect_point_at.Goals as goal

pub returns-then-passed-eq0 : goal.returns-then-passed-eq0
returns-then-passed-eq0 c = found_of _ _ _ _ _ _ (λ u e. sym (kiai_first _ _ _ u _ e c.if-passed-eq0.true)) c.in-Some.ensures

pub returns-else-passed-eq0 : goal.returns-else-passed-eq0
returns-else-passed-eq0 c = found_of _ _ _ _ _ _ (λ u e. c.read_flag-value.ensures ∙ sym (kiai_last _ _ _ u _ e c.if-passed-eq0.false)) c.in-Some.ensures
