-- `hit_object_reader::rows::hold_on` meets its contract. Assumes nothing.
use Rattle.std.proofs.Common.{sym, ◌∙◌}
use Rattle.text.specs.Text.{ascii}
use Rattle.hit_object_lines.specs.Lines.{hold_part, end_part}
use Rattle.hit_object_reader.specs.Laws.Parts.{word_same}
use Rattle.hit_object_reader.specs.Laws.Rows.{hold_type, hold_end, hold_sample, hold_is}
use Rattle.hit_object_reader.proofs.rows.hold_on.Goals as goal

pub returns-in_err-time-clause-value : goal.returns-in_err-time-clause-value
unfolding hold_part ascii
returns-in_err-time-clause-value c =
    let a = c.args in
    rw c.from_residual.ensures (hold_type a.head.x a.head.start a.s.now (sym (word_same hold_part a.s.now) ∙ c.in_err-time.ensures.cases))

pub returns-in_err-end-clause-value : goal.returns-in_err-end-clause-value
unfolding hold_part ascii
returns-in_err-end-clause-value c =
    let a = c.args in
    let t = c.in_ok-time.ensures.cases in
    rw c.from_residual-in_err-end.ensures (hold_end a.head.x a.head.start a.s.now (sym (word_same hold_part a.s.now) ∙ t.0) (rw t.1 at (sym c.in_err-end.ensures.value)))

pub returns-in_err-rest-clause-value : goal.returns-in_err-rest-clause-value
unfolding hold_part end_part ascii
returns-in_err-rest-clause-value c =
    let a = c.args in
    let t = c.in_ok-time.ensures.cases in
    let e = c.in_ok-end in
    rw c.from_residual-in_err-rest.ensures
    (hold_sample a.head.x a.head.start a.s.now (sym (word_same hold_part a.s.now) ∙ t.0) e.end e.sample.now (rw t.1 at (sym e.ensures.value)) (sym (word_same end_part e.sample.now) ∙ c.in_err-rest.ensures.cases))

pub returns-clause-value : goal.returns-clause-value
unfolding hold_part end_part ascii
returns-clause-value c =
    let a = c.args in
    let t = c.in_ok-time.ensures.cases in
    let e = c.in_ok-end in
    let r = c.in_ok-rest.ensures.cases in
    rw r.1 (hold_is a.head.x a.head.start a.s.now (sym (word_same hold_part a.s.now) ∙ t.0) e.end e.sample.now (rw t.1 at (sym e.ensures.value)) (sym (word_same end_part e.sample.now) ∙ r.0))
