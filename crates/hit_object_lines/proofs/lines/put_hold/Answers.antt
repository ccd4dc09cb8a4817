-- `hit_object_lines::lines::put_hold` meets its contract: its parts stand side by side (`wrote_next`). Assumes nothing.
use native.Mathlib.Omega.{arith}
use Rattle.text.specs.Text.{ascii, decimal}
use Rattle.text.specs.Laws.{wrote_first, wrote_next}
use Rattle.hit_object_lines.specs.Lines.{hold_part, end_part, head_text, line_text}
use Rattle.hit_object_lines.specs.Laws.Text.{length_hold}
use Rattle.hit_object_lines.proofs.lines.put_hold.Goals as goal

pub put_head-a-requires : goal.put_head-a-requires
put_head-a-requires c = let a = c.args in omega (arith, length_hold a.x a.start a.end)

pub put_word-b-requires : goal.put_word-b-requires
put_word-b-requires c = let a = c.args in omega (arith, length_hold a.x a.start a.end)

pub put_number-c-requires : goal.put_number-c-requires
put_number-c-requires c = let a = c.args in omega (arith, length_hold a.x a.start a.end)

pub put_word-requires : goal.put_word-requires
put_word-requires c = let a = c.args in omega (arith, length_hold a.x a.start a.end)

pub returns : goal.returns
unfolding line_text hold_part end_part ascii
returns c =
    let a = c.args in
    let fits = length_hold a.x a.start a.end in
    let part₁ = wrote_first (head_text a.x a.start) c.put_head-a.ensures.s_after c.put_head-a.ensures.value in
    let part₂ = wrote_next hold_part part₁ c.put_word-b.ensures.s_after c.put_word-b.ensures.value (omega arith) in
    let part₃ = wrote_next (decimal a.end) part₂ c.put_number-c.ensures.s_after c.put_number-c.ensures.value (omega arith) in
    let all = wrote_next end_part part₃ c.put_word.ensures.s_after c.put_word.ensures.value (omega arith) in
    record { value = all.next; s_after = all.bytes }
