-- `chart::rows::put_note` meets its contract. The three splices, one behind another, are one splice of the note's bytes (`note_put_mid`).
-- Assumes nothing.
use mathlib.Core.Path.{refl, ◌∙◌}
use native.Mathlib.Omega.{arith}
use Rattle.chart.specs.Laws.Notes.{size_is, note_put_mid}
use Rattle.chart.proofs.rows.put_note.Goals as goal

pub put_head-requires : goal.put_head-requires
put_head-requires c = omega (arith, size_is c.args.version, c.requires)

pub returns : goal.returns
returns c =
    c.put8-2.ensures
    ∙ rw (c.put_head.ensures, c.put8.ensures, c.head.ensures, c.head_size-size.ensures) (note_put_mid c.args.version c.args.s.now c.args.at _ _ c.args.n refl (omega arith) c.requires)
