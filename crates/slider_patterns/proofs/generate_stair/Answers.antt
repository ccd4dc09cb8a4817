-- `slider_patterns::generate_stair` meets its contract. Assumes nothing.
use Rattle.std.proofs.Common.{sym, ◌∙◌, arith}
use lib.Ieee.{round, of_bits}
use Rattle.random.specs.Play.{value}
use Rattle.random.specs.Laws.Try.{goes_on}
use Rattle.mania.specs.Pattern.{empty}
use Rattle.mania.specs.PathObject.{generate_stair}
use Rattle.pattern.specs.Answers.{pattern}
use Rattle.pattern.specs.Laws.Searches.{get_column_lt}
use Rattle.slider_notes.proofs.Ends.{places, leaves}
use Rattle.slider_patterns.proofs.generate_stair.Goals as goal

pub returns-in_err-v : goal.returns-in_err-v
unfolding generate_stair
returns-in_err-v c = leaves _ value _ _ _ _ _ _ _ c.draw.ensures c.in_err-v.was c.from_residual.ensures.1

pub turns-turns-requires : goal.turns-turns-requires
turns-turns-requires c =
    let own = c.get_column-c.ensures in
    omega (arith, own, get_column_lt c.args.slider.g.x c.args.slider.g.columns (omega (arith, c.args.slider.fits.low)))

pub add_stair-requires : goal.add_stair-requires
add_stair-requires c =
    let t = c.turns-turns.ensures in
    (rw t.0 c.args.slider.fits.low, omega (arith, t.1, c.args.slider.fits.spans, c.requires))

pub returns : goal.returns
unfolding generate_stair pattern empty round of_bits
returns c =
    let t = c.turns-turns.ensures in
    places _ _ _ _ _ _ c.add_stair.ensures
    (rw (t.0, t.1, t.2, t.3) (sym (goes_on _ value _ _ _ _ _ c.draw.ensures c.in_ok-v.was ∙ rw (← c.next_double-chance.ensures, ← c.get_column-c.ensures))))
    (omega (arith, t.1, c.args.slider.fits.spans))
