-- `slider_patterns::generate_random_hold_notes` meets its contract: a column, the holds off the previous pattern, and those that come anywhere. Assumes
-- nothing.
use Rattle.std.proofs.Common.{◌≡◌, ℕ, ◌+◌, ◌≤◌, ◌<◌, min, sym, ap, subst, ◌∙◌, arith}
use Rattle.std.specs.Prelude.{Result}
use Rattle.std.proofs.Math.Nat.{min-le_right}
use Rattle.random.specs.Answers.{number}
use Rattle.random.specs.declared.Draws.{Draws}
use Rattle.random.specs.declared.Refused.{Refused}
use Rattle.mania.specs.PathObject.{any_column, generate_random_hold_notes}
use Rattle.mania.specs.PatternGenerator.{random_start, get_random_column}
use Rattle.pattern.specs.Laws.Searches.{any_on_deck}
use Rattle.pattern.specs.Laws.Words.{empty_is}
use Rattle.slider_notes.specs.Answers.{reached, many', at}
use Rattle.slider_notes.specs.Words.{of_word}
use Rattle.slider_notes.specs.declared.Reached.{Reached}
use Rattle.slider_notes.proofs.Ends.{stops, leaves}
use Rattle.slider_patterns.proofs.Rules.{off_stop, over_stop, holds_found}
use Rattle.slider_patterns.proofs.generate_random_hold_notes.Goals as goal

-- at most n
least-le : (k m n : ℕ) → k ≡ min m n → n ≤ 6 → k ≤ 6
least-le k m n e h = omega (arith, min-le_right m n)

pub returns-in_err-c : goal.returns-in_err-c
unfolding generate_random_hold_notes any_column
returns-in_err-c c =
    let g = c.args.slider.g in
    leaves _ (get_random_column (random_start g.columns) g.columns) _ _ _ _ _ _ _ c.any_column.ensures c.in_err-c.was c.from_residual.ensures.1

pub add_holds-requires : goal.add_holds-requires
add_holds-requires c =
    let fit = c.args.slider.fits in
    let off = least-le _ _ _ c.min-off.ensures c.requires.1 in (
      (omega (arith, fit.low), fit.high, any_on_deck _ (omega (arith, fit.low)) _ _ _ (sym c.any_column.ensures ∙ ap number c.in_ok-c.was)),
      omega (arith, fit.times),
      fit.ends,
      omega (arith, c.requires.0, off),
    )

pub returns-in_err-some : goal.returns-in_err-some
returns-in_err-some c =
    stops _ _ _ c.from_residual-in_err-some.ensures.1 _ _
    (off_stop _ _ _ _ _ (sym c.any_column.ensures ∙ ap number c.in_ok-c.was) _ (empty_is of_word _) _ _ (c.min-off.ensures ∙ ap (λ (k : ℕ). min k c.args.n) c.room.ensures)
    c.holds_over-over.ensures.0 _ _ (sym c.add_holds.ensures.says ∙ ap (reached c.add_holds.new.words) c.in_err-some.was))

pub add_holds-requires-2 : goal.add_holds-requires-2
add_holds-requires-2 c =
    let fit = c.args.slider.fits in
    let r = c.in_ok-some.was in
    let off = least-le _ _ _ c.min-off.ensures c.requires.1 in
    let few = subst (λ (x : Result (Reached × Draws) Refused). many' x ≤ 0 + c.min-off.result) r c.add_holds.ensures.few in (
      (omega (arith, fit.low), fit.high, subst (λ (x : Result (Reached × Draws) Refused). at x < c.args.slider.g.columns) r c.add_holds.ensures.deck),
      omega (arith, fit.times),
      fit.ends,
      omega (arith, c.requires.0, c.add_holds.auto.words, off, few, c.holds_over-over.ensures.1),
    )

pub returns-in_err-all : goal.returns-in_err-all
returns-in_err-all c =
    stops _ _ _ c.from_residual-in_err-all.ensures.1 _ _
    (over_stop _ _ _ _ _ (sym c.any_column.ensures ∙ ap number c.in_ok-c.was) _ (empty_is of_word _) _ _ (c.min-off.ensures ∙ ap (λ (k : ℕ). min k c.args.n) c.room.ensures)
    c.holds_over-over.ensures.0 _ _ _ (sym c.add_holds.ensures.says ∙ ap (reached c.add_holds.new.words) c.in_ok-some.was) _ _
    (sym c.add_holds-2.ensures.says ∙ ap (reached c.add_holds-2.new.words) c.in_err-all.was))

pub returns : goal.returns
returns c =
    record {
      says =
          sym
          (holds_found _ _ _ _ _ (sym c.any_column.ensures ∙ ap number c.in_ok-c.was) _ (empty_is of_word _) _ _ (c.min-off.ensures ∙ ap (λ (k : ℕ). min k c.args.n) c.room.ensures)
          c.holds_over-over.ensures.0 _ _ _ (sym c.add_holds.ensures.says ∙ ap (reached c.add_holds.new.words) c.in_ok-some.was) _ _ _
          (sym c.add_holds-2.ensures.says ∙ ap (reached c.add_holds-2.new.words) c.in_ok-all.was));
      few =
          omega (
            arith,
            subst (λ (x : Result (Reached × Draws) Refused). many' x ≤ c.in_ok-some.some.pattern.count + c.holds_over-over.result) c.in_ok-all.was c.add_holds-2.ensures.few,
            subst (λ (x : Result (Reached × Draws) Refused). many' x ≤ 0 + c.min-off.result) c.in_ok-some.was c.add_holds.ensures.few,
            c.holds_over-over.ensures.1,
            least-le _ _ _ c.min-off.ensures c.requires.1,
          );
    }
