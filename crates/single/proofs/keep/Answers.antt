-- `single::keep` meets its contract. Assumes nothing.
use mathlib.Core.Path.{refl, ◌∙◌}
use Prim.Native.Nat.{◌*◌}
use native.Mathlib.Omega.{arith}
use lib.ListN.{length}
use borrow.Author.Tests.{lt-ltb, le-ltb}
use Rattle.mania.specs.Laws.Walks.{splice_start}
use Rattle.single.specs.Ends.{full, kept}
use Rattle.chart.specs.Layout.{note_size}
use Rattle.single.proofs.keep.Goals as goal

pub returns-then-notes-count : goal.returns-then-notes-count
returns-then-notes-count c =
    let a = c.args in
    full (lt-ltb (length a.notes.now) (note_size * a.made.pattern.count) (omega arith)) refl refl

pub returns : goal.returns
returns c =
    let a = c.args in
    kept (le-ltb (length a.notes.now) (note_size * a.made.pattern.count) (omega arith)) (c.put_notes.ensures ∙ splice_start a.notes.now _) refl
