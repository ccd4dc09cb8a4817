-- `end_time_object::generate_by_value` meets its contract. Assumes nothing.
use mathlib.Core.Path.{sym, ◌∙◌}
use native.Mathlib.Omega.{arith}
use Rattle.random.specs.Play.{play}
use Rattle.random.specs.Laws.On.{found_bind, refused_bind}
use Rattle.random.specs.Laws.Try.{goes_on}
use Rattle.mania.specs.Pattern.{empty, put}
use Rattle.mania.specs.EndTimeObject.{note_column, generate}
use Rattle.pattern.specs.Laws.Adds.{add_on, add_off}
use Rattle.pattern.specs.Laws.Exits.{leaves_made}
use Rattle.end_time_object.proofs.Words.{one_note}
use Rattle.end_time_object.proofs.generate_by_value.Goals as goal

pub returns-in_err-c : goal.returns-in_err-c
unfolding generate
returns-in_err-c c =
    rw (← c.lasting-lasts.ensures) (leaves_made _ (note_column _ _ _ _) _ _ _ _ _ _ _ _ c.note_column.ensures c.in_err-c.was c.from_residual.ensures.1)

pub returns-then-g-c : goal.returns-then-g-c
unfolding generate
returns-then-g-c c =
    record {
      says = sym (rw (← c.lasting-lasts.ensures) (goes_on _ (note_column _ _ _ _) _ _ _ _ _ c.note_column.ensures c.in_ok-c.was ∙ refused_bind _ _ _ _ _ (add_off _ _ _ _ _ c.if-g-c.true)));
      few = omega arith;
    }

pub returns : goal.returns
unfolding generate put empty play
returns c =
    let a = c.args in
    record {
      says =
          rw (one_note a.g.o a.g.duration a.words.now c.in_ok-c.c (omega arith) (omega arith))
          (sym (rw (← c.lasting-lasts.ensures) (goes_on _ (note_column _ _ _ _) _ _ _ _ _ c.note_column.ensures c.in_ok-c.was ∙ found_bind _ _ _ _ _ (add_on _ _ _ _ _ c.if-g-c.false))));
      few = omega arith;
    }
