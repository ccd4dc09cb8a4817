-- `text::places` meets its contract: the whole logarithm is one less (`length_decimal`). Assumes nothing.
use Rattle.std.proofs.Common.{◌^◌, ◌<◌, suc, pow-suc, arith}
use Rattle.text.specs.Laws.{length_decimal}
use Rattle.text.proofs.places.Goals as goal

pub returns : goal.returns
returns c =
    let n = c.args.n in
    let k = c.ilog10.result in
    let low = rw c.max.ensures at c.ilog10.ensures.power_le in
    let high : n < 10 ^ suc k = rw (pow-suc 10 k) (omega arith) in
    omega (arith, length_decimal n k low high)
