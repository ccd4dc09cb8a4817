-- `hit_object_reader::rows::line_on` meets its contract. Assumes nothing.
use Rattle.std.proofs.Common.{sym, ◌∙◌}
use Rattle.text.specs.Text.{ascii}
use Rattle.hit_object_lines.specs.Lines.{circle_part}
use Rattle.hit_object_reader.specs.Laws.Parts.{word_same}
use Rattle.hit_object_reader.specs.Laws.Rows.{line_head, line_circle, line_hold}
use Rattle.hit_object_reader.proofs.rows.line_on.Goals as goal

pub returns-in_err-head-clause-value : goal.returns-in_err-head-clause-value
returns-in_err-head-clause-value c = rw c.from_residual.ensures (line_head c.args.s.now (sym c.in_err-head.ensures.value))

pub returns-in-Some-clause-value : goal.returns-in-Some-clause-value
unfolding circle_part ascii
returns-in-Some-clause-value c =
    let g = c.in_ok-head in
    let k = c.in-Some.ensures.cases in
    rw k.1 (line_circle c.args.s.now g.head.x g.head.start g.kind.now (sym g.ensures.value) (sym (word_same circle_part g.kind.now) ∙ k.0))

pub returns-in-None-clause-value : goal.returns-in-None-clause-value
unfolding circle_part ascii
returns-in-None-clause-value c =
    let g = c.in_ok-head in
    c.hold_on.ensures.value ∙ line_hold c.args.s.now g.head.x g.head.start g.kind.now (sym g.ensures.value) (sym (word_same circle_part g.kind.now) ∙ c.in-None.ensures.cases)
