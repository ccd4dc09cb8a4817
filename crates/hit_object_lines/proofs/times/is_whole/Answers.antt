-- `hit_object_lines::times::is_whole` meets its contract: after a whole start the duration decides (`sum_whole`). Assumes nothing.
use mathlib.Core.Path.{sym, ◌∙◌}
use borrow.Author.Tests.{eqb-true}
use Rattle.hit_object_lines.specs.Lines.{start_of, end_of, is_whole}
use Rattle.hit_object_lines.specs.Laws.Times.{in_start, in_duration, sum_whole}
use Rattle.hit_object_lines.proofs.times.is_whole.Goals as goal

pub has_whole-requires : goal.has_whole-requires
has_whole-requires c = in_start c.args.n.start c.args.n.duration c.requires.start_time_law c.requires.ends

pub has_whole-requires-then-has_whole : goal.has_whole-requires-then-has_whole
has_whole-requires-then-has_whole c = in_duration c.args.n.start c.args.n.duration c.requires.duration_time c.requires.ends

pub returns-then-has_whole : goal.returns-then-has_whole
unfolding is_whole start_of end_of
returns-then-has_whole c =
    let first = sym c.has_whole.ensures ∙ c.if-has_whole.true in
    c.has_whole-then-has_whole.ensures ∙ rw (first, sum_whole _ _ (eqb-true _ 0 first))

pub returns-else-has_whole : goal.returns-else-has_whole
unfolding is_whole start_of
returns-else-has_whole c = c.if-has_whole.false ∙ rw (sym c.has_whole.ensures ∙ c.if-has_whole.false)
