-- `chart_text::put_draws_line` meets its contract: the parts of the line stand side by side (`wrote_next`). Assumes nothing.
use Rattle.text.specs.Text.{ascii, named}
use Rattle.text.specs.Laws.{wrote_first, wrote_next}
use Rattle.chart_text.specs.Text.{draws_line}
use borrow.Author.Rules.{rules}
use Rattle.chart_text.proofs.put_draws_line.Goals as goal

pub returns : goal.returns
unfolding draws_line ascii
returns c =
    let a = c.args in
    let line₁ = wrote_first (named a.first.now a.a) c.put_named-one.ensures.s_after c.put_named-one.ensures.value.0 in
    let line₂ = wrote_next (named a.second.now a.b) line₁ c.put_named-two.ensures.s_after c.put_named-two.ensures.value.0 (search rules) in
    let line₃ = wrote_next (named (ascii " draws ") a.draws) line₂ c.put_named-three.ensures.s_after c.put_named-three.ensures.value.0 (search rules) in
    let line = wrote_next (ascii "\n") line₃ c.put_word.ensures.s_after c.put_word.ensures.value (search rules) in
    record { value = (line.next, search rules); s_after = line.bytes }
