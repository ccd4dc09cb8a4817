-- `sheet::put_line` meets its contract: the text, the spaces to the edge and the line feed stand side by side (`wrote_next`). Assumes nothing.
use mathlib.Core.Path.{◌≡◌}
use mathlib.Core.List.{List}
use Prim.Native.Nat.{ℕ, ◌+◌, ◌-◌, ◌*◌}
use native.Mathlib.Omega.{arith}
use lib.ListN.{length, replicate, length-replicate}
use Rattle.chart.specs.Chart.{notes_in}
use Rattle.text.specs.Text.{ascii, space, left}
use Rattle.text.specs.Laws.{wrote_first, wrote_next}
use Rattle.sheet.specs.Layout.{line_width, line_size}
use Rattle.sheet.specs.Sheet.{text_at, line_at}
use borrow.Author.Rules.{rules}
use Rattle.sheet.proofs.put_line.Goals as goal

pub returns : goal.returns
unfolding line_at left ascii
returns c =
    let t : List ℕ = text_at c.args.sheet.columns (notes_in c.args.sheet.notes.chart.now) c.args.i in
    let gap : ℕ = line_width - length t in
    let same : line_size * c.args.i + line_width - c.put_text-end.result ≡ gap = omega (arith, c.put_text-end.ensures.value.0) in
    let line₁ = wrote_first t c.put_text-end.ensures.s_after c.put_text-end.ensures.value.0 in
    let line₂ = wrote_next {next = c.put_run-edge.result} (replicate gap space) line₁ (rw same at c.put_run-edge.ensures.s_after)
    (omega (arith, c.put_run-edge.ensures.value, same, length-replicate gap space)) (search rules) in
    let line = wrote_next (ascii "\n") line₂ c.put_word.ensures.s_after c.put_word.ensures.value (search rules) in
    line.bytes
