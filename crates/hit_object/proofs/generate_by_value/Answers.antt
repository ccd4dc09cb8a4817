-- `hit_object::generate_by_value` meets its contract: the pattern, and then the stair. Assumes nothing.
use mathlib.Core.Path.{sym, subst, ◌∙◌}
use Rattle.random.specs.Play.{play}
use Rattle.random.specs.Laws.Try.{goes_on}
use Rattle.mania.specs.HitObject.{generate_core, generate}
use Rattle.pattern.specs.Answers.{pattern, AtMost}
use Rattle.pattern.specs.Laws.Exits.{leaves_made}
use Rattle.hit_object.proofs.generate_by_value.Goals as goal

pub returns-in_err-pattern : goal.returns-in_err-pattern
unfolding generate
returns-in_err-pattern c = leaves_made _ (generate_core _) _ _ _ _ _ _ _ _ c.generate_core.ensures.0 c.in_err-pattern.was c.from_residual.ensures.1

pub returns : goal.returns
unfolding generate pattern play
returns c =
    record {
      says = sym (goes_on _ (generate_core _) _ _ _ _ _ c.generate_core.ensures.0 c.in_ok-pattern.was ∙ rw (← c.stair_after-stair.ensures));
      few = subst (AtMost _) c.in_ok-pattern.was c.generate_core.ensures.1;
    }
