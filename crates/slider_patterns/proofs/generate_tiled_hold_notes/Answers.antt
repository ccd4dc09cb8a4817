-- `slider_patterns::generate_tiled_hold_notes` meets its contract. Assumes nothing.
use Rattle.std.proofs.Common.{sym, ap, ◌∙◌, arith}
use Rattle.std.proofs.Math.Nat.{min-le_left}
use Rattle.random.specs.Answers.{number}
use Rattle.random.specs.Laws.Try.{goes_on}
use Rattle.mania.specs.Pattern.{empty}
use Rattle.mania.specs.PathObject.{head_column, generate_tiled_hold_notes}
use Rattle.pattern.specs.Answers.{pattern}
use Rattle.slider_notes.proofs.Ends.{places, leaves}
use Rattle.slider_patterns.proofs.Bounds.{head_lt, end_lt}
use Rattle.slider_patterns.proofs.generate_tiled_hold_notes.Goals as goal

pub returns-in_err-c : goal.returns-in_err-c
unfolding generate_tiled_hold_notes
returns-in_err-c c = leaves _ (head_column c.args.slider.g c.args.slider.g.flags) _ _ _ _ _ _ _ c.head_column.ensures c.in_err-c.was c.from_residual.ensures.1

pub turns-turns-requires : goal.turns-turns-requires
turns-turns-requires c = (
  omega (arith, min-le_left c.args.slider.g.spans c.args.slider.g.columns),
  head_lt c.args.slider.g c.args.slider.g.flags (omega (arith, c.args.slider.fits.low)) _ _ _ (sym c.head_column.ensures ∙ ap number c.in_ok-c.was),
)

pub add_tiles-requires : goal.add_tiles-requires
add_tiles-requires c =
    let few = min-le_left c.args.slider.g.spans c.args.slider.g.columns in
    (omega (arith, c.turns-turns.ensures.1, few, c.args.slider.fits.spans, c.requires), end_lt _ c.args.slider.fits)

pub returns : goal.returns
unfolding generate_tiled_hold_notes pattern empty
returns c =
    let t = c.turns-turns.ensures in
    places _ _ _ _ _ _ c.add_tiles.ensures
    (rw (t.0, t.1, t.2, t.3) (sym (goes_on _ (head_column c.args.slider.g c.args.slider.g.flags) _ _ _ _ _ c.head_column.ensures c.in_ok-c.was ∙ rw (← c.min-n.ensures))))
    (omega (arith, t.1, min-le_left c.args.slider.g.spans c.args.slider.g.columns, c.args.slider.fits.spans))
