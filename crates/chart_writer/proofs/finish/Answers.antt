-- `chart_writer::finish` meets its contract. The notes behind the header are as they were, and the splice of the header and that of the notes are one splice of the chart (`encode_put`).
-- Assumes nothing.
use mathlib.Core.Path.{◌≡◌, refl, ◌∙◌}
use mathlib.Core.List.{List, []}
use Prim.Native.Nat.{ℕ, ◌≤◌}
use native.Mathlib.Nat.{zero-add}
use native.Mathlib.Omega.{arith}
use lib.ListN.{length, drop}
use Rattle.chart.specs.declared.Version.TheVariants.{Two}
use Rattle.chart.specs.declared.Note.{Note}
use Rattle.chart.specs.Bytes.{splice}
use Rattle.chart.specs.Chart.{header, notes_of, Holds}
use Rattle.chart.specs.Order.{arranged}
use Rattle.chart.specs.Laws.Bytes.{drop_splice}
use Rattle.chart.specs.Laws.Notes.{encode_put, length_header, length_notes_of}
use Rattle.chart.specs.Laws.Order.{length_arranged}
use borrow.Author.Rules.{rules}
use Rattle.chart_writer.proofs.finish.Goals as goal

-- the header's bytes stand before the notes
behind : (s : List ℕ) (columns notes draws : ℕ) → 8 ≤ length s → drop 8 (splice s 0 (header Two columns notes draws)) ≡ drop 8 s
behind s columns notes draws room = drop_splice s 0 (header Two columns notes draws) 8 (omega arith) (omega (arith, length_header Two columns notes draws))

pub arrange-requires : goal.arrange-requires
unfolding Holds
arrange-requires c =
    let a = c.args in
    (search rules, rw (c.put_header.ensures, behind a.chart.now a.columns a.notes _ (omega (arith, c.requires.1.0))) c.requires.1.1)

pub returns : goal.returns
returns c =
    let a = c.args in
    let s = a.chart.now in
    let ns : List Note = arranged [] (notes_of Two a.notes (drop 8 s)) in
    let size : length ns ≡ a.notes = length_arranged [] (notes_of Two a.notes (drop 8 s)) ∙ zero-add (length (notes_of Two a.notes (drop 8 s))) ∙ length_notes_of Two a.notes (drop 8 s) in
    let whole = encode_put Two s a.columns a.draws ns (rw size (search rules)) in
    record {
      value = refl;
      chart_after = c.arrange.ensures ∙ rw (c.put_header.ensures, behind s a.columns a.notes a.draws (search rules)) (rw size at whole);
    }
