-- `sheet::put_read` meets its contract: a law for each answer. Assumes nothing.
use mathlib.Core.Path.{◌≡◌}
use Prim.Native.Nat.{◌*◌}
use native.Mathlib.Nat.{le_refl}
use lib.ListN.{length}
use Rattle.chart.specs.Chart.{notes_in}
use Rattle.sheet.specs.Layout.{page_lines, line_size}
use Rattle.sheet.specs.Sheet.{lines, pages}
use Rattle.sheet.specs.Laws.{length_lines, too_short, in_buffer}
use Rattle.sheet.proofs.put_read.Goals as goal
use Rattle.sheet.proofs.put_read.Goals.{Start}

-- the sheet's length
size : (c : Start) → length (lines c.args.sheet.columns (notes_in c.args.sheet.notes.chart.now) (page_lines * pages c.args.sheet.notes.count)) ≡ line_size * (page_lines * pages c.args.sheet.notes.count)
size c = length_lines c.args.sheet.columns (notes_in c.args.sheet.notes.chart.now) c.args.sheet.fits (page_lines * pages c.args.sheet.notes.count) (rw c.args.sheet.notes.counted (le_refl _))

pub returns-then-s-size : goal.returns-then-s-size
returns-then-s-size c =
    too_short _ _ (rw (size (goal.at.returns-then-s-size c).Start, ← c.pages_of-end.ensures) c.if-s-size.true)

pub returns : goal.returns
returns c =
    let fits = rw c.pages_of-end.ensures at c.if-s-size.false in
    let text = lines c.args.sheet.columns (notes_in c.args.sheet.notes.chart.now) (page_lines * pages c.args.sheet.notes.count) in
    rw (c.put_lines.ensures, c.pages_of-end.ensures) (rw (size (goal.at.returns c).Start) at (in_buffer text c.args.s.now (rw (size (goal.at.returns c).Start) fits)))
