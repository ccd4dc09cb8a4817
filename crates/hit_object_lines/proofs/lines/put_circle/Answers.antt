-- `hit_object_lines::lines::put_circle` meets its contract: its parts stand side by side (`wrote_next`). Assumes nothing.
use native.Mathlib.Omega.{arith}
use Rattle.text.specs.Text.{ascii}
use Rattle.text.specs.Laws.{wrote_first, wrote_next}
use Rattle.hit_object_lines.specs.Lines.{circle_part, head_text, line_text}
use Rattle.hit_object_lines.specs.Laws.Text.{length_circle}
use Rattle.hit_object_lines.proofs.lines.put_circle.Goals as goal

pub put_head-a-requires : goal.put_head-a-requires
put_head-a-requires c = let a = c.args in omega (arith, length_circle a.x a.start)

pub put_word-requires : goal.put_word-requires
put_word-requires c = let a = c.args in omega (arith, length_circle a.x a.start)

pub returns : goal.returns
unfolding line_text circle_part ascii
returns c =
    let a = c.args in
    let fits = length_circle a.x a.start in
    let part₁ = wrote_first (head_text a.x a.start) c.put_head-a.ensures.s_after c.put_head-a.ensures.value in
    let all = wrote_next circle_part part₁ c.put_word.ensures.s_after c.put_word.ensures.value (omega arith) in
    record { value = all.next; s_after = all.bytes }
