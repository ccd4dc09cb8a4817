-- `sumopine::ranges::sumopine_slider_ends` meets its contract: what an arm binds are the numbers of the answer, and a number above its field is refused
-- as the field's largest value is (`told_whole`). Assumes nothing.
use Rattle.std.proofs.Common.{Ok, Err, refl, sym, subst, arith, ◌∙◌}
use Rattle.announced.specs.declared.Slider.{Slider}
use Rattle.announced.specs.Announced.{EndsAre}
use Rattle.sumopine.specs.Announced.{distance_range}
use Rattle.sumopine.proofs.Cut.{told_whole}
use Rattle.sumopine.proofs.ranges.sumopine_slider_ends.Goals as goal

pub returns-in-Ok : goal.returns-in-Ok
returns-in-Ok c =
    let a = c.args in
    let r = distance_range a.distance_low a.distance_high in
    let told = subst (λ (s : Slider). EndsAre s r (Ok (c.in-Ok.first, c.in-Ok.last))) c.slider_of-s.ensures c.in-Ok.ensures in
    told_whole a.multiplier a.beat a.velocity a.x a.y a.start a.sound a.repeats a.has_node a.node r 0 c.in-Ok.first c.in-Ok.last
    (record { refusal = sym told.0; from = λ z. told.1; none = λ n. absurd (n refl) })

pub returns-in-Err : goal.returns-in-Err
returns-in-Err c =
    let a = c.args in
    let r = distance_range a.distance_low a.distance_high in
    let told = subst (λ (s : Slider). EndsAre s r (Err c.in-Err.refusal)) c.slider_of-s.ensures c.in-Err.ensures in
    told_whole a.multiplier a.beat a.velocity a.x a.y a.start a.sound a.repeats a.has_node a.node r _ 0 0
    (record { refusal = c.from.ensures ∙ sym told.0; from = λ z. absurd (omega (arith, told.1, c.from.ensures)); none = λ n. (refl, refl) })
