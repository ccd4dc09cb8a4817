-- `chart_text::put_note_line` meets its contract: the parts of the line stand side by side (`wrote_next`). Assumes nothing.
use Rattle.text.specs.Text.{ascii, decimal, with_hex}
use Rattle.text.specs.Laws.{wrote_first, wrote_next}
use Rattle.chart_text.specs.Text.{note_line}
use borrow.Author.Rules.{rules}
use Rattle.chart_text.proofs.put_note_line.Goals as goal

pub returns-then-n : goal.returns-then-n
unfolding note_line ascii
returns-then-n c =
    let a = c.args in
    let line₁ = wrote_first (decimal a.n.column) c.put_decimal-a.ensures.s_after c.put_decimal-a.ensures.value.0 in
    let line₂ = wrote_next (with_hex (ascii " H ") a.n.start) line₁ c.put_with_hex-b.ensures.s_after c.put_with_hex-b.ensures.value.0 (search rules) in
    let line₃ = wrote_next (with_hex (ascii " ") a.n.duration) line₂ c.put_with_hex-c.ensures.s_after c.put_with_hex-c.ensures.value.0 (search rules) in
    let line = wrote_next (ascii "\n") line₃ c.put_word.ensures.s_after c.put_word.ensures.value (search rules) in
    rw c.if-n.true (record { value = (line.next, search rules); s_after = line.bytes })

pub returns : goal.returns
unfolding note_line ascii
returns c =
    let a = c.args in
    let line₁ = wrote_first (decimal a.n.column) c.put_decimal-a.ensures.s_after c.put_decimal-a.ensures.value.0 in
    let line₂ = wrote_next (with_hex (ascii " C ") a.n.start) line₁ c.put_with_hex-b-2.ensures.s_after c.put_with_hex-b-2.ensures.value.0 (search rules) in
    let line = wrote_next (ascii "\n") line₂ c.put_word-2.ensures.s_after c.put_word-2.ensures.value (search rules) in
    rw c.if-n.false (record { value = (line.next, search rules); s_after = line.bytes })
