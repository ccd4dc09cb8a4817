-- `hit_object_reader::rows::head_on` meets its contract. Assumes nothing.
use Rattle.std.proofs.Common.{sym, ◌∙◌}
use Rattle.text.specs.Text.{ascii}
use Rattle.hit_object_lines.specs.Lines.{y_part}
use Rattle.hit_object_reader.specs.Laws.Parts.{word_same}
use Rattle.hit_object_reader.specs.Laws.Rows.{head_x, head_y, head_start, head_is}
use Rattle.hit_object_reader.proofs.rows.head_on.Goals as goal

pub returns-in_err-x-clause-value : goal.returns-in_err-x-clause-value
returns-in_err-x-clause-value c = rw c.from_residual.ensures (head_x c.args.s.now (sym c.in_err-x.ensures.value))

pub returns-in_err-time-clause-value : goal.returns-in_err-time-clause-value
unfolding y_part ascii
returns-in_err-time-clause-value c =
    let g = c.in_ok-x in
    rw c.from_residual-in_err-time.ensures (head_y c.args.s.now g.x g.y.now (sym g.ensures.value) (sym (word_same y_part g.y.now) ∙ c.in_err-time.ensures.cases))

pub returns-in_err-start-clause-value : goal.returns-in_err-start-clause-value
unfolding y_part ascii
returns-in_err-start-clause-value c =
    let g = c.in_ok-x in
    let y = c.in_ok-time.ensures.cases in
    let none = rw y.1 at (sym c.in_err-start.ensures.value) in
    rw c.from_residual-in_err-start.ensures (head_start c.args.s.now g.x g.y.now (sym g.ensures.value) (sym (word_same y_part g.y.now) ∙ y.0) none)

pub returns-clause-value : goal.returns-clause-value
unfolding y_part ascii
returns-clause-value c =
    let g = c.in_ok-x in
    let y = c.in_ok-time.ensures.cases in
    let h = c.in_ok-start in
    head_is c.args.s.now g.x g.y.now (sym g.ensures.value) (sym (word_same y_part g.y.now) ∙ y.0) h.start h.rest.now (rw y.1 at (sym h.ensures.value))
