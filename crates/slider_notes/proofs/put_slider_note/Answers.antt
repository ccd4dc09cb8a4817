-- `slider_notes::put_slider_note` meets its contract: the word is read back as the note. Assumes nothing.
use Rattle.std.proofs.Common.{◌≡◌, arith, ap, subst, ◌∙◌}
use Rattle.slider_notes.specs.Words.{of_word, slider_note, Put}
use Rattle.slider_notes.proofs.Words.{word_back}
use Rattle.slider_notes.proofs.put_slider_note.Goals as goal

pub returns : goal.returns
returns c =
    let a = c.args in
    let r = c.requires in
    let back : of_word c.word.result ≡ slider_note a.column a.start a.end =
    ap of_word c.word.ensures ∙ word_back a.column a.start a.end (omega arith) r.1 r.2 in
    subst (λ b. Put a.words.now c.put_word.new.words a.p b c.put_word.result) back c.put_word.ensures
