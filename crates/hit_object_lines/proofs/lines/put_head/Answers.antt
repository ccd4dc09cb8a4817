-- `hit_object_lines::lines::put_head` meets its contract: its parts stand side by side (`wrote_next`). Assumes nothing.
use native.Mathlib.Omega.{arith}
use Rattle.text.specs.Text.{ascii, decimal}
use Rattle.text.specs.Laws.{wrote_first, wrote_next}
use Rattle.hit_object_lines.specs.Lines.{y_part, head_text}
use Rattle.hit_object_lines.specs.Laws.Text.{length_head}
use Rattle.hit_object_lines.proofs.lines.put_head.Goals as goal

pub put_number-a-requires : goal.put_number-a-requires
put_number-a-requires c = let a = c.args in omega (arith, length_head a.x a.start)

pub put_word-b-requires : goal.put_word-b-requires
put_word-b-requires c = let a = c.args in omega (arith, length_head a.x a.start)

pub put_number-requires : goal.put_number-requires
put_number-requires c = let a = c.args in omega (arith, length_head a.x a.start)

pub returns : goal.returns
unfolding head_text y_part ascii
returns c =
    let a = c.args in
    let fits = length_head a.x a.start in
    let part₁ = wrote_first (decimal a.x) c.put_number-a.ensures.s_after c.put_number-a.ensures.value in
    let part₂ = wrote_next y_part part₁ c.put_word-b.ensures.s_after c.put_word-b.ensures.value (omega arith) in
    let all = wrote_next (decimal a.start) part₂ c.put_number.ensures.s_after c.put_number.ensures.value (omega arith) in
    record { value = all.next; s_after = all.bytes }
