-- `object::generate` meets its contract, kind by kind. Assumes nothing.
use mathlib.Core.Path.{subst}
use native.Mathlib.Omega.{arith}
use Rattle.mania.specs.Range.{FewRepeats}
use Rattle.object.proofs.Decks.{circle_ends, slider_ends, end_time_ends}
use Rattle.object.proofs.generate.Goals as goal

pub generate_slider-requires : goal.generate_slider-requires
generate_slider-requires c =
    let p = c.requires in
    (p.low, p.high, subst FewRepeats c.in-Slider.is p.range.repeats, p.range.start, omega (arith, p.words), omega (arith, p.spare))

pub returns-in-Circle : goal.returns-in-Circle
returns-in-Circle c =
    circle_ends _ _ _ _ _ _ _ c.in-Circle.is c.requires.low c.generate_circle.ensures

pub returns-in-Slider : goal.returns-in-Slider
returns-in-Slider c =
    let k = c.in-Slider in
    slider_ends _ _ _ _ _ _ _ k.repeats k.distance k.node k.is c.requires.low c.generate_slider.ensures

pub returns-in-Spinner : goal.returns-in-Spinner
returns-in-Spinner c =
    let k = c.in-Spinner in
    end_time_ends _ _ _ _ _ _ _ k.duration c.requires.last c.requires.mask c.generate_owned.ensures k.is
