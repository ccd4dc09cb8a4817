-- `circle_notes::add_mirrored` meets its contract. The invariant is `Mirroring`: the rest of the rule comes to what the whole comes to. Assumes nothing.
use mathlib.Core.Path.{◌≡◌, refl, sym, ap, subst, ◌∙◌}
use Prim.Native.Nat.{◌+◌, ◌-◌, ◌/◌, ◌<◌}
use native.Mathlib.Omega.{arith}
use Rattle.random.specs.Play.{on}
use Rattle.random.specs.Answers.{number}
use Rattle.random.specs.Laws.Try.{goes_on}
use Rattle.mania.specs.declared.Note.{Note}
use Rattle.mania.specs.Pattern.{Pattern}
use Rattle.mania.specs.PatternGenerator.{find_available_column}
use Rattle.mania.specs.HitObject.{add_pair, add_mirrored}
use Rattle.mania.proofs.Columns.{start_small}
use Rattle.pattern.specs.Answers.{pattern, AtMost}
use Rattle.pattern.specs.Laws.Exits.{leaves_placed}
use Rattle.pattern.specs.Laws.Searches.{on_deck}
use Rattle.pattern.specs.Laws.Words.{empty_is}
use Rattle.circle_notes.proofs.Loops.{mirrored_more, mirrored_end}
use Rattle.circle_notes.proofs.add_mirrored.Goals as goal
use Rattle.circle_notes.proofs.add_mirrored.Goals.{After-random_start-low, In_ok-c}

pub loop-init : goal.loop-init
loop-init c =
    let a = c.args in
    let e : a.n - 0 ≡ a.n = omega arith in
    record {
      same = refl;
      many = omega arith;
      fine = omega arith;
      goes = rw e (ap (λ (p : Pattern Note). on (add_mirrored a.circle.g a.n a.first p) a.d) (empty_is _ _));
    }

-- the first column of the search is in the left half
low : (c : After-random_start-low) → c.random_start-low.result < c.args.circle.g.columns / 2
low c = rw c.random_start-low.ensures (start_small _ (omega arith))

pub invariant_of-search-clause-some : goal.invariant_of-search-clause-some
invariant_of-search-clause-some c = low (goal.at.invariant_of-search-clause-some c).After-random_start-low

pub returns-in_err-c : goal.returns-in_err-c
unfolding pattern
returns-in_err-c c =
    let x = leaves_placed _ (find_available_column _ _ _ _ _ _) _ _ _ _ _ _ _ _ c.find_available_column.ensures c.in_err-c.was c.from_residual.ensures.1 in
    (x.0 ∙ sym (mirrored_more _ _ _ _ _ (omega (arith, c.loop-test.true)) _ c.random_start-low.ensures) ∙ c.loop.invariant.goes, x.1)

small : (c : In_ok-c) → c.in_ok-c.c < c.args.circle.g.columns
small c =
    on_deck _ _ _ _ _ _ c.loop.invariant.fine (rw c.random_start-low.ensures (start_small _ (omega arith))) (omega arith) _ _ _
    (sym c.find_available_column.ensures ∙ ap number c.in_ok-c.was)

pub add_pair-requires : goal.add_pair-requires
add_pair-requires c = omega (arith, small (goal.at.add_pair-requires c).In_ok-c, c.loop-test.true)

pub returns-in_err-q : goal.returns-in_err-q
unfolding pattern
returns-in_err-q c =
    let x = leaves_placed _ (add_pair _ _ _) _ _ _ _ _ _ _ _ c.add_pair.ensures.0 c.in_err-q.was c.from_residual-in_err-q.ensures.1 in (
      x.0
          ∙ sym (mirrored_more _ _ _ _ _ (omega (arith, c.loop-test.true)) _ c.random_start-low.ensures
          ∙ goes_on _ (find_available_column _ _ _ _ _ _) _ _ _ _ _ c.find_available_column.ensures c.in_ok-c.was) ∙ c.loop.invariant.goes,
      x.1,
    )

pub loop-preserved : goal.loop-preserved
unfolding pattern
loop-preserved c =
    let l = c.loop in let n = c.args.n in
    let e : n - (l.counter + 1) ≡ n - l.counter - 1 = omega arith in
    record {
      same = omega arith;
      many = omega (arith, subst (AtMost _) c.in_ok-q.was c.add_pair.ensures.1, c.loop-test.true);
      fine = small (goal.at.loop-preserved c).In_ok-c;
      goes =
          rw e
          (sym (mirrored_more _ _ _ _ _ (omega (arith, c.loop-test.true)) _ c.random_start-low.ensures
          ∙ goes_on _ (find_available_column _ _ _ _ _ _) _ _ _ _ _ c.find_available_column.ensures c.in_ok-c.was
          ∙ goes_on _ (add_pair _ _ _) _ _ _ _ _ c.add_pair.ensures.0 c.in_ok-q.was) ∙ l.invariant.goes);
    }

pub shape_of-words : goal.shape_of-words
shape_of-words c = c.loop.invariant.same

pub returns : goal.returns
returns c =
    let l = c.loop in
    (sym (mirrored_end _ _ _ _ _ (omega (arith, c.loop-test.false))) ∙ l.invariant.goes, omega arith)
