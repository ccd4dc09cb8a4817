-- `text::put_named` meets its contract: the word and its number stand side by side (`wrote_next`). Assumes nothing.
use Rattle.text.specs.Text.{decimal, named}
use Rattle.text.specs.Laws.{wrote_first, wrote_next}
use borrow.Author.Rules.{rules}
use Rattle.text.proofs.put_named.Goals as goal

pub returns : goal.returns
unfolding named
returns c =
    let line = wrote_next (decimal c.args.n) (wrote_first c.args.word.now c.put_word-a.ensures.s_after c.put_word-a.ensures.value) c.put_decimal.ensures.s_after c.put_decimal.ensures.value.0 (search rules) in
    record { value = (line.next, search rules); s_after = line.bytes }
