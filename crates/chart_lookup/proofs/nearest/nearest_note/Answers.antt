-- `chart_lookup::nearest::nearest_note` meets its contract: the reader's answer says whether there is a chart, and its columns and notes.
-- Assumes nothing.
use mathlib.Core.Path.{◌∙◌}
use Rattle.chart.specs.Chart.{reading}
use Rattle.std.proofs.lemmas.Result.{err_from_is_err_and}
use Rattle.chart.specs.Laws.Reader.{refused_none, refused_broken}
use Rattle.chart_lookup.specs.Nearest.{sought_in, sought}
use Rattle.chart_lookup.specs.Laws.Notes.{read_columns_law}
use Rattle.chart_lookup.proofs.nearest.nearest_note.Goals as goal

pub returns : goal.returns
unfolding sought reading
returns c = c.seek.ensures ∙ rw c.new.ensures.0 ((read_columns_law _ _ _ _ _ c.in_ok-header.ensures).1 _ _)

pub returns-in_err-header : goal.returns-in_err-header
unfolding sought sought_in reading
returns-in_err-header c =
    let p = err_from_is_err_and c.from_residual.result c.from_residual.ensures.1 in
    rw (refused_none _ _ c.in_err-header.ensures, p.1, p.2, refused_broken _ _ c.in_err-header.ensures)
