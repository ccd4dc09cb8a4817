-- `slider_patterns::generate_random_multiple_notes` meets its contract. Assumes nothing.
use Rattle.std.proofs.Common.{◌<◌, ◌-◌, ◌^◌, sym, ap, ◌∙◌, arith}
use Rattle.random.specs.Play.{value}
use Rattle.random.specs.Answers.{number}
use Rattle.random.specs.Laws.Range.{between_lt}
use Rattle.random.specs.Laws.Took.{took_small}
use Rattle.random.specs.Laws.Try.{goes_on}
use Rattle.mania.specs.Pattern.{empty}
use Rattle.mania.specs.PathObject.{generate_random_multiple_notes}
use Rattle.pattern.specs.Answers.{pattern}
use Rattle.pattern.specs.Laws.Searches.{get_column_lt}
use Rattle.slider_notes.proofs.Ends.{places, leaves}
use Rattle.slider_patterns.proofs.Bounds.{legacy_lt}
use Rattle.slider_patterns.proofs.generate_random_multiple_notes.Goals as goal
use Rattle.slider_patterns.proofs.generate_random_multiple_notes.Goals.{In_ok-v}

-- a drawn value is below 2 ^ 31
small : (c : In_ok-v) → c.in_ok-v.v < 2 ^ 31
small c = took_small _ _ _ (sym c.draw.ensures ∙ ap number c.in_ok-v.was)

pub returns-in_err-v : goal.returns-in_err-v
unfolding generate_random_multiple_notes
returns-in_err-v c = leaves _ value _ _ _ _ _ _ _ c.draw.ensures c.in_err-v.was c.from_residual.ensures.1

pub overflow_sub-g : goal.overflow_sub-g
overflow_sub-g c =
    let k = c.legacy-legacy.ensures in
    omega (arith, legacy_lt c.args.slider.g.columns c.args.slider.fits.low)

pub next_int_range-interval-requires : goal.next_int_range-interval-requires
next_int_range-interval-requires c =
    let k = c.legacy-legacy.ensures in
    let l = legacy_lt c.args.slider.g.columns c.args.slider.fits.low in
    (small (goal.at.next_int_range-interval-requires c).In_ok-v, omega arith, omega (arith, c.args.slider.fits.high))

pub turns-turns-requires : goal.turns-turns-requires
turns-turns-requires c =
    let own = c.get_column-c.ensures in
    omega (arith, own, get_column_lt c.args.slider.g.x c.args.slider.g.columns (omega (arith, c.args.slider.fits.low)))

pub add_rows-requires : goal.add_rows-requires
add_rows-requires c =
    let t = c.turns-turns.ensures in
    let k = c.legacy-legacy.ensures in
    let l = legacy_lt c.args.slider.g.columns c.args.slider.fits.low in
    let i = c.next_int_range-interval.ensures in
    let top = between_lt {lower = 1} {upper = c.args.slider.g.columns - c.legacy-legacy.result} (small (goal.at.add_rows-requires c).In_ok-v) (omega arith) in
    (omega (arith, t.1, c.args.slider.fits.spans, c.requires), rw t.0 (omega arith))

pub returns : goal.returns
unfolding generate_random_multiple_notes pattern empty
returns c =
    let t = c.turns-turns.ensures in
    places _ _ _ _ _ _ c.add_rows.ensures
    (rw (t.0, t.1, t.2, t.3) (sym (goes_on _ value _ _ _ _ _ c.draw.ensures c.in_ok-v.was ∙ rw (← c.legacy-legacy.ensures, ← c.next_int_range-interval.ensures, ← c.get_column-c.ensures))))
    (omega (arith, t.1, c.args.slider.fits.spans))
