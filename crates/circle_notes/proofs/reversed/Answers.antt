-- `circle_notes::reversed` meets its contract: `add_each` with the mirror images. Assumes nothing.
use Rattle.std.proofs.Common.{rules}
use Rattle.mania.specs.HitObject.{image, reversed}
use Rattle.circle_notes.proofs.reversed.Goals as goal

pub returns : goal.returns
unfolding reversed
returns c =
    let k = c.add_each.ensures in
    (k.0 (image c.args.circle.g.columns) (λ i e l p. search rules), k.1)
