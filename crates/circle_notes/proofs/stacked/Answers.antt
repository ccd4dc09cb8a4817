-- `circle_notes::stacked` meets its contract: `add_each` with each column itself. Assumes nothing.
use Rattle.std.proofs.Common.{rules}
use Rattle.mania.specs.HitObject.{stacked}
use Rattle.circle_notes.proofs.stacked.Goals as goal

pub returns : goal.returns
unfolding stacked
returns c =
    let k = c.add_each.ensures in
    (k.0 (λ i. i) (λ i e l p. search rules), k.1)
