-- `settings::seed` meets its contract: of accepted settings each sum fits. Assumes nothing.
use Rattle.std.proofs.Common.{◌+◌, ◌*◌, ◌^◌, ◌<◌, arith}
use lib.Ieee.{round, of_bits}
use Rattle.mania.specs.Convert.{seed}
use Rattle.settings.specs.Laws.{small_seed}
use Rattle.settings.proofs.seed.Goals as goal
use Rattle.settings.proofs.seed.Goals.{After-to_count-ar}

sum_fits : (c : After-to_count-ar) → c.to_count-hp_cs.result * 20 + c.to_count-od.result + c.to_count-ar.result < 2 ^ 32
unfolding round of_bits
sum_fits c =
    let small = small_seed c.args.s c.requires in
    let a = c.to_count-hp_cs.ensures in
    let b = c.to_count-od.ensures in
    let r = c.to_count-ar.ensures in
    omega arith

pub overflow_mul-result : goal.overflow_mul-result
overflow_mul-result c = omega (arith, sum_fits (goal.at.overflow_mul-result c).After-to_count-ar)

pub overflow_add-result : goal.overflow_add-result
overflow_add-result c = omega (arith, sum_fits (goal.at.overflow_add-result c).After-to_count-ar)

pub overflow_add-result-2 : goal.overflow_add-result-2
overflow_add-result-2 c = omega (arith, sum_fits (goal.at.overflow_add-result-2 c).After-to_count-ar)

pub returns : goal.returns
unfolding seed round of_bits
returns c = rw (c.to_count-hp_cs.ensures, c.to_count-od.ensures, c.to_count-ar.ensures)
