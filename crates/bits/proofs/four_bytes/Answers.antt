-- `bits::four_bytes` meets its contract. Assumes nothing.
use Rattle.bits.proofs.Words.{four}
use Rattle.bits.proofs.four_bytes.Goals as goal

pub returns : goal.returns
returns c =
    four _ _ _ _ _ _ c.joined-one.ensures c.joined-two.ensures c.joined-three.ensures c.joined.ensures
