-- `path_object::generate_by_value` meets its contract. Assumes nothing.
use Rattle.std.specs.Prelude.{Result}
use Rattle.std.proofs.Common.{◌≤◌, sym, ap, subst, ◌∙◌, zero-le, arith}
use Rattle.model.specs.Limits.{most_notes}
use Rattle.random.specs.Play.{found}
use Rattle.random.specs.declared.Draws.{Draws}
use Rattle.random.specs.declared.Refused.{Refused}
use Rattle.mania.specs.declared.SliderNote.{SliderNote}
use Rattle.mania.specs.Made.{Made}
use Rattle.mania.specs.Pattern.{Pattern}
use Rattle.pattern.specs.Answers.{placed}
use Rattle.pattern.specs.declared.Pattern as Lent
use Rattle.slider_notes.specs.Words.{of_word}
use Rattle.slider_notes.specs.Answers.{many}
use Rattle.path_object.proofs.Splits.{made, made_is, late, in_time, refused_in, stops}
use Rattle.path_object.proofs.generate_by_value.Goals as goal
use Rattle.path_object.proofs.generate_by_value.Goals.{In_ok-p}

pub returns-then-end-gt-LATEST_END : goal.returns-then-end-gt-LATEST_END
returns-then-end-gt-LATEST_END c = record { says = sym (late _ _ c.if-end-gt-LATEST_END.true); few = zero-le }

pub returns-in_err-p : goal.returns-in_err-p
returns-in_err-p c =
    let core = c.generate_core in
    stops _ _ _ c.from_residual.ensures.1 _ _
    (refused_in _ _ c.if-end-gt-LATEST_END.false _ _ (sym core.ensures.says ∙ ap (placed of_word core.new.words) c.in_err-p.was))

-- at most so many notes
few : (c : In_ok-p) → c.in_ok-p.p.count ≤ most_notes
few c = subst (λ (r : Result (Lent.Pattern × Draws) Refused). many r ≤ most_notes) c.in_ok-p.was c.generate_core.ensures.few

pub split-pattern-requires : goal.split-pattern-requires
split-pattern-requires c =
    let f = few (goal.at.split-pattern-requires c).In_ok-p in (omega (arith, f, c.generate_core.auto.words, c.requires.0), omega (arith, f, c.requires.1))

pub returns : goal.returns
returns c =
    let core = c.generate_core in
    let o = c.split-pattern.ensures in
    record {
      says =
          ap (λ (m : Made). found m c.in_ok-p.next) (made_is c.args.ready.g.stair _ c.split-pattern.result)
          ∙ ap (λ (q : Pattern SliderNote). found (made c.args.ready.g.stair q) c.in_ok-p.next) o.is
          ∙ sym (in_time _ _ c.if-end-gt-LATEST_END.false _ _ (sym core.ensures.says ∙ ap (placed of_word core.new.words) c.in_ok-p.was));
      few = omega (arith, o.same, few (goal.at.returns c).In_ok-p);
    }
