-- `sheet::put_head` meets its contract: the parts of the line stand side by side (`wrote_next`). Assumes nothing.
use native.Mathlib.Omega.{arith}
use lib.ListN.{replicate, length-replicate}
use Rattle.text.specs.Text.{ascii, space, right, left}
use Rattle.text.specs.Laws.{decimal_fits, length_right, wrote_first, wrote_next}
use Rattle.sheet.specs.Sheet.{head_text}
use borrow.Author.Rules.{rules}
use Rattle.sheet.proofs.put_head.Goals as goal

pub put_right-requires : goal.put_right-requires
put_right-requires c =
    (decimal_fits c.args.page 5 c.requires.0, search rules)

pub returns : goal.returns
unfolding head_text left ascii
returns c =
    let line₁ = wrote_first (ascii "PAGE") c.put_word-word.ensures.s_after c.put_word-word.ensures.value in
    let line₂ = wrote_next {next = c.put_run-gap.result} (replicate 30 space) line₁ c.put_run-gap.ensures.s_after (omega (arith, c.put_run-gap.ensures.value, length-replicate 30 space)) (search rules) in
    let line = wrote_next {next = c.put_right.result} (right 6 c.args.page) line₂ c.put_right.ensures.s_after
    (omega (arith, c.put_right.ensures.value, length_right 6 c.args.page (decimal_fits c.args.page 5 c.requires.0))) (search rules) in
    record { value = line.next; s_after = line.bytes }
