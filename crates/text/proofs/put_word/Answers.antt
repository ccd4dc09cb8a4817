-- `text::put_word` meets its contract: the word is spliced in. Assumes nothing.
use Rattle.std.proofs.Common.{◌+◌, ◌-◌, length, arith}
use Rattle.text.specs.Laws.{part_splice}
use Rattle.text.proofs.put_word.Goals as goal

pub returns-clause-s_after : goal.returns-clause-s_after
returns-clause-s_after c =
    let a = c.args in
    rw c.copy_from_slice.ensures.after (part_splice a.at (a.at + length a.word.now - a.at) a.s.now a.word.now (omega arith))
