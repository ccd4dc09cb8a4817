-- `text::put_with_hex` meets its contract: the word and its bit pattern stand side by side (`wrote_next`). Assumes nothing.
use mathlib.Core.Path.{◌∙◌}
use Rattle.text.specs.Text.{hex, with_hex}
use Rattle.text.specs.Laws.{wrote_first, wrote_next, length_hex}
use borrow.Author.Rules.{rules}
use Rattle.text.proofs.put_with_hex.Goals as goal

pub returns : goal.returns
unfolding with_hex
returns c =
    let line = wrote_next (hex c.args.bits) (wrote_first c.args.word.now c.put_word-a.ensures.s_after c.put_word-a.ensures.value) c.put_hex.ensures.s_after (c.put_hex.ensures.value ∙ rw (length_hex c.args.bits)) (search rules) in
    record { value = (line.next, search rules); s_after = line.bytes }
