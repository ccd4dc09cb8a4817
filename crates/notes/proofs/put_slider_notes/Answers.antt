-- `notes::put_slider_notes` meets its contract. The loop's invariant: the first i notes are written. Assumes nothing.
use mathlib.Core.Path.{refl}
use native.Mathlib.Omega.{arith}
use Rattle.slider_notes.specs.Words.{note_of_word}
use Rattle.notes.proofs.Written.{none_yet, put_next, all_written}
use Rattle.notes.proofs.put_slider_notes.Goals as goal

pub loop-i-init : goal.loop-i-init
loop-i-init c = none_yet _ _ _ (omega arith)

pub put_note-requires : goal.put_note-requires
put_note-requires c = omega arith

pub loop-i-preserved : goal.loop-i-preserved
loop-i-preserved c =
    let loop = c.loop-i in
    put_next _ _ _ _ _ loop.invariant (omega arith) (rw (c.pattern_of-p.ensures, c.note_of-n.ensures)) c.put_note.ensures

pub returns : goal.returns
returns c = all_written _ _ _ note_of_word _ _ _ c.loop-i.invariant c.loop-i-test.false refl
