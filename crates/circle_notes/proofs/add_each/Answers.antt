-- `circle_notes::add_each` meets its contract. The invariant: at most i notes, and the rest of the rule comes to what the whole comes to. Assumes nothing.
use mathlib.Core.Path.{refl, sym, ap, subst, ◌∙◌}
use Prim.Native.Nat.{◌-◌}
use native.Mathlib.Omega.{arith}
use Rattle.random.specs.Play.{on}
use Rattle.random.specs.Laws.Try.{goes_on, leaves}
use Rattle.mania.specs.declared.Note.{Note}
use Rattle.mania.specs.Pattern.{Pattern}
use Rattle.mania.specs.PatternGenerator.{random_start}
use Rattle.mania.specs.HitObject.{add_one, add_each}
use Rattle.pattern.specs.Answers.{AtMost}
use Rattle.pattern.specs.Laws.Exits.{none_placed}
use Rattle.pattern.specs.Laws.Searches.{start_le}
use Rattle.pattern.specs.Laws.Words.{empty_is}
use Rattle.circle_notes.proofs.Loops.{each_more, each_end}
use Rattle.circle_notes.proofs.add_each.Goals as goal

pub loop-i-init : goal.loop-i-init
loop-i-init g c =
    let a = c.args in
    (refl, omega arith, λ t h. rw c.random_start-low.ensures (ap (λ (p : Pattern Note). on (add_each a.circle.g t (a.circle.g.columns - random_start a.circle.g.columns) (random_start a.circle.g.columns) p) a.d) (empty_is _ _)))

pub returns-in_err-q : goal.returns-in_err-q
returns-in_err-q g c =
    let l = c.loop-i in let exit = c.from_residual.ensures.1 in (
      λ t h.
          leaves _ (add_one _ _ _ _) _ _ _ _ _ _ c.add_one.ensures.0 c.in_err-q.was exit
          ∙ sym (each_more _ _ _ _ _ c.loop-i-test.true _ (h _ _ c.loop-i-test.true c.to-c.ensures)) ∙ l.invariant.2 t h,
      none_placed _ _ c.from_residual.result exit,
    )

pub loop-i-preserved : goal.loop-i-preserved
loop-i-preserved g c =
    let l = c.loop-i in (
      omega arith,
      omega (arith, subst (AtMost _) c.in_ok-q.was c.add_one.ensures.1),
      λ t h.
          sym (each_more _ _ _ _ _ c.loop-i-test.true _ (h _ _ c.loop-i-test.true c.to-c.ensures)
          ∙ goes_on _ (add_one _ _ _ _) _ _ _ _ _ c.add_one.ensures.0 c.in_ok-q.was) ∙ l.invariant.2 t h,
    )

pub shape_of-words : goal.shape_of-words
shape_of-words g c = c.loop-i.invariant.0

pub returns : goal.returns
returns g c =
    let l = c.loop-i in
    (λ t h. sym (each_end _ _ _ _ _ c.loop-i-test.false) ∙ l.invariant.2 t h, omega (arith, rw c.random_start-low.ensures at l.auto.i-end, start_le c.args.circle.g.columns, l.invariant.1))
