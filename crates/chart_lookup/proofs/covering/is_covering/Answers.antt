-- `chart_lookup::covering::is_covering` meets its contract: the exact test of the note of that place, then its kind.
-- Assumes nothing.
use mathlib.Core.Path.{sym, ◌∙◌}
use mathlib.Core.Bool.{and-true, and-false}
use Rattle.chart_lookup.specs.Lookup.{wanted}
use Rattle.chart.specs.Laws.Reader.{note_known}
use Rattle.chart_lookup.proofs.covering.is_covering.Goals as goal

pub covers-requires : goal.covers-requires
covers-requires c = let k = (note_known _ _ (rw (← c.args.notes.counted) c.requires)).1 in
    (rw c.note-n.ensures k.0, rw c.note-n.ensures k.1)

pub returns-then-covers : goal.returns-then-covers
unfolding wanted
returns-then-covers c = rw (← c.note-n.ensures, sym c.covers.ensures ∙ c.if-covers.true) (sym (and-true _))

pub returns-else-covers : goal.returns-else-covers
unfolding wanted
returns-else-covers c = rw (← c.note-n.ensures, ← c.covers.ensures, c.if-covers.false) (sym (and-false c.note-n.result.hold))
