-- `slider_patterns::generate_random_notes` meets its contract. Assumes nothing.
use Rattle.std.proofs.Common.{sym, ap, ◌∙◌, arith}
use Rattle.random.specs.Answers.{number}
use Rattle.random.specs.Laws.Try.{goes_on}
use Rattle.mania.specs.Pattern.{empty}
use Rattle.mania.specs.PathObject.{head_column, generate_random_notes}
use Rattle.pattern.specs.Answers.{pattern}
use Rattle.slider_notes.proofs.Ends.{places, leaves}
use Rattle.slider_patterns.proofs.Bounds.{head_lt}
use Rattle.slider_patterns.proofs.generate_random_notes.Goals as goal

pub returns-in_err-c : goal.returns-in_err-c
unfolding generate_random_notes
returns-in_err-c c = leaves _ (head_column c.args.slider.g c.args.flags) _ _ _ _ _ _ _ c.head_column.ensures c.in_err-c.was c.from_residual.ensures.1

pub turns-turns-requires : goal.turns-turns-requires
turns-turns-requires c = (c.requires.1, head_lt c.args.slider.g c.args.flags (omega (arith, c.args.slider.fits.low)) _ _ _ (sym c.head_column.ensures ∙ ap number c.in_ok-c.was))

pub add_row-requires : goal.add_row-requires
add_row-requires c = omega (arith, c.turns-turns.ensures.1, c.args.slider.fits.spans, c.requires)

pub returns : goal.returns
unfolding generate_random_notes pattern empty
returns c =
    let t = c.turns-turns.ensures in
    places _ _ _ _ _ _ c.add_row.ensures
    (rw (t.0, t.1, t.2, t.3) (sym (goes_on _ (head_column c.args.slider.g c.args.flags) _ _ _ _ _ c.head_column.ensures c.in_ok-c.was)))
    (omega (arith, t.1, c.requires.1, c.args.slider.fits.spans))
