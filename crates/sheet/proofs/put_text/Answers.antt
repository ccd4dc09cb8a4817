-- `sheet::put_text` meets its contract: the branches are those of `text_at`. Assumes nothing.
use mathlib.Core.Path.{sym}
use Prim.Native.Nat.{◌<◌}
use native.Mathlib.Nat.{add-zero}
use native.Mathlib.Omega.{arith}
use lib.ListN.{length, get_or}
use Rattle.chart.specs.Laws.Bytes.{splice_none}
use Rattle.chart.specs.Chart.{notes_in, blank}
use Rattle.sheet.specs.Sheet.{place_at}
use Rattle.sheet.specs.Fits.{NoteFits}
use Rattle.sheet.specs.Laws.{length_head, length_note, page_fits, text_head, text_note, text_blank}
use Rattle.sheet.proofs.put_text.Goals as goal
use Rattle.sheet.proofs.put_text.Goals.{Else-place-sheet}

-- the line's note is there, and fits
there : (c : Else-place-sheet) → place_at c.args.i < length (notes_in c.args.sheet.notes.chart.now)
there c = omega (arith, c.if-place-sheet.false, c.args.sheet.notes.counted)

fits : (c : Else-place-sheet) → NoteFits c.args.sheet.columns (get_or (notes_in c.args.sheet.notes.chart.now) (place_at c.args.i) blank)
fits c = c.args.sheet.fits.each _ (there c)

pub returns-then-line-eq0 : goal.returns-then-line-eq0
returns-then-line-eq0 c =
    let fits = page_fits c.args.sheet.notes.count c.args.i (rw c.args.sheet.notes.counted c.args.sheet.fits.few_notes) c.requires.0 in
    rw (text_head c.args.sheet.columns (notes_in c.args.sheet.notes.chart.now) c.args.i c.if-line-eq0.true)
    (record { value = (c.put_head.ensures.value, omega (arith, c.put_head.ensures.value, length_head _ fits)); s_after = c.put_head.ensures.s_after })

pub returns-then-place-sheet : goal.returns-then-place-sheet
returns-then-place-sheet c =
    let none = text_blank c.args.sheet.columns (notes_in c.args.sheet.notes.chart.now) c.args.i c.if-line-eq0.false (omega (arith, c.if-place-sheet.true, c.args.sheet.notes.counted)) in
    rw none (record { value = (sym (add-zero c.args.at), omega arith); s_after = sym (splice_none c.args.s.now c.args.at (omega arith)) })

pub returns : goal.returns
returns c =
    let size = length_note c.args.sheet.columns _ (fits (goal.at.returns c).Else-place-sheet) in
    rw (text_note c.args.sheet.columns (notes_in c.args.sheet.notes.chart.now) c.args.i c.if-line-eq0.false (there (goal.at.returns c).Else-place-sheet), ← c.note.ensures)
    (record { value = (c.put_note.ensures.value, omega (arith, c.put_note.ensures.value, rw (← c.note.ensures) at size, (fits (goal.at.returns c).Else-place-sheet).few_columns)); s_after = c.put_note.ensures.s_after })
