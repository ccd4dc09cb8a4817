-- `sheet::put_note` meets its contract: the parts of the line stand side by side (`wrote_next`). Assumes nothing.
use mathlib.Core.Path.{◌≡◌, ap, ◌∙◌}
use mathlib.Core.List.{List, [], ◌∷◌, ◌++◌, append_assoc}
use Prim.Native.Nat.{ℕ, ◌+◌, ◌-◌}
use native.Mathlib.Omega.{arith}
use lib.ListN.{length, replicate, length-replicate}
use Rattle.chart.specs.Bytes.{splice}
use Rattle.text.specs.Text.{ascii, space, right}
use Rattle.text.specs.Laws.{length_right, wrote_first, wrote_next}
use Rattle.sheet.specs.Layout.{start_width}
use Rattle.sheet.specs.Sheet.{milliseconds, no_note, mark, deck, note_text}
use Rattle.sheet.specs.Laws.{start_digits}
use borrow.Author.Rules.{rules}
use Rattle.sheet.proofs.put_note.Goals as goal

-- the parts of the line, one after another
joined : (a b r : List ℕ) (s m : ℕ) → (((a ++ (s ∷ [])) ++ b) ++ (m ∷ [])) ++ r ≡ a ++ (s ∷ (b ++ (m ∷ r)))
joined a b r s m = simp append_assoc

pub put_right-start-requires : goal.put_right-start-requires
put_right-start-requires c =
    (rw c.start_of.ensures (start_digits c.args.n.start c.requires.0.start), search rules)

pub returns : goal.returns
unfolding note_text deck ascii
returns c =
    let n = c.args.n in
    let ms = milliseconds n.start in
    let k : ℕ = c.args.columns - (n.column + 1) in
    let m : ℕ = mark n.hold in
    let line₁ = wrote_first {at = c.put_right-start.result} (right start_width ms) (rw c.start_of.ensures at c.put_right-start.ensures.s_after)
    (omega (arith, c.put_right-start.ensures.value, length_right start_width ms (start_digits n.start c.requires.0.start))) in
    let line₂ = wrote_next (ascii " ") line₁ c.put_word-gap.ensures.s_after c.put_word-gap.ensures.value (search rules) in
    let line₃ = wrote_next {next = c.put_run-before.result} (replicate n.column no_note) line₂ c.put_run-before.ensures.s_after
    (omega (arith, c.put_run-before.ensures.value, length-replicate n.column no_note)) (search rules) in
    let line₄ = wrote_next {next = c.put_run-note.result} (m ∷ []) line₃ (rw c.mark_of.ensures at c.put_run-note.ensures.s_after) c.put_run-note.ensures.value (search rules) in
    let line = wrote_next {next = c.put_run.result} (replicate k no_note) line₄ c.put_run.ensures.s_after
    (omega (arith, c.put_run.ensures.value, length-replicate k no_note)) (search rules) in
    let all = joined (right start_width ms) (replicate n.column no_note) (replicate k no_note) space m in
    record { value = line.next ∙ ap (λ (t : List ℕ). c.args.at + length t) all; s_after = line.bytes ∙ ap (splice c.args.s.now c.args.at) all }
