-- `slider_notes::put_other` meets its contract. Assumes nothing.
use mathlib.Core.Path.{◌∙◌}
use native.Mathlib.Omega.{arith}
use borrow.Author.Tests.{lt-ltb, le-ltb}
use Rattle.slider_notes.proofs.Decks.{other_lt}
use Rattle.slider_notes.proofs.put_other.Goals as goal

pub put_slider_note-requires : goal.put_slider_note-requires
put_slider_note-requires c =
    let a = c.args in
    let k = c.other_column-other.ensures in
    omega (arith, other_lt a.columns a.interval a.c (omega arith) (omega arith))

pub returns-then-columns-gt2 : goal.returns-then-columns-gt2
returns-then-columns-gt2 c =
    let o = c.other_column-other.ensures in
    record { is = c.put_slider_note.ensures.is ∙ rw (lt-ltb _ _ c.if-columns-gt2.true, o); more = omega (arith, c.put_slider_note.ensures.more) }

pub returns : goal.returns
returns c = record { is = rw (le-ltb _ _ c.if-columns-gt2.false); more = omega arith }
