-- `chart::rows::note_in` meets its contract, version by version.
-- Assumes nothing.
use mathlib.Core.Path.{subst, ◌∙◌}
use Prim.Native.Nat.{◌+◌, ◌≤◌}
use lib.ListN.{length}
use Rattle.chart.specs.Layout.{note_size_in}
use Rattle.chart.specs.declared.Version.{Version}
use Rattle.chart.proofs.rows.note_in.Goals as goal

pub note_by-requires : goal.note_by-requires
note_by-requires c =
    subst (λ (v : Version). c.args.at + note_size_in v ≤ length c.args.s.now) c.in-One.is c.requires

pub note_by-requires-in-Two : goal.note_by-requires-in-Two
note_by-requires-in-Two c =
    subst (λ (v : Version). c.args.at + note_size_in v ≤ length c.args.s.now) c.in-Two.is c.requires

pub returns-in-One : goal.returns-in-One
returns-in-One c = c.note_by.ensures ∙ rw c.in-One.is

pub returns-in-Two : goal.returns-in-Two
returns-in-Two c = c.note_by-in-Two.ensures ∙ rw c.in-Two.is
