-- `hit_object_lines::text_size` meets its contract. The invariant: the notes before the i-th are whole, and their lines have `size` bytes. Assumes nothing.
use mathlib.Core.Path.{◌≡◌, refl, sym, ◌∙◌}
use Prim.Native.Nat.{◌≤◌, ◌<◌}
use native.Mathlib.Omega.{arith}
use lib.ListN.{length}
use Rattle.chart.specs.Chart.{notes_in, blank}
use Rattle.hit_object_lines.specs.Lines.{chart_lines}
use Rattle.hit_object_lines.specs.Told.{size_of}
use Rattle.hit_object_lines.specs.Laws.Notes.{standing_at}
use Rattle.hit_object_lines.specs.Laws.Chart.{whole_next, whole_fails, whole_all, lines_next, lines_all}
use Rattle.hit_object_lines.proofs.text_size.Goals as goal

pub loop-i-init : goal.loop-i-init
loop-i-init c = record { most = omega arith; whole = refl; bytes = omega arith }

pub note-n-requires : goal.note-n-requires
note-n-requires c = omega (arith, c.args.score.notes.counted)

pub is_whole-requires : goal.is_whole-requires
is_whole-requires c =
    let l = c.loop-i in
    let ns = notes_in c.args.score.notes.chart.now in
    let below : l.i < length ns = omega (arith, c.args.score.notes.counted) in
    rw c.note-n.ensures (standing_at c.args.score.columns 0 ns c.args.score.ok l.i blank below)

pub returns-then-not-is_whole : goal.returns-then-not-is_whole
unfolding size_of
returns-then-not-is_whole c =
    let l = c.loop-i in
    let ns = notes_in c.args.score.notes.chart.now in
    let below : l.i < length ns = omega (arith, c.args.score.notes.counted) in
    let bad = rw c.note-n.ensures at (sym c.is_whole.ensures ∙ c.if-not-is_whole.true) in
    rw (l.invariant.whole ∙ whole_fails ns l.i below bad)

pub line_size-size-requires : goal.line_size-size-requires
line_size-size-requires c =
    let l = c.loop-i in
    let ns = notes_in c.args.score.notes.chart.now in
    let below : l.i < length ns = omega (arith, c.args.score.notes.counted) in
    record {
      some_columns = c.args.score.some_columns;
      stands = rw c.note-n.ensures (standing_at c.args.score.columns 0 ns c.args.score.ok l.i blank below);
      whole = sym c.is_whole.ensures ∙ c.if-not-is_whole.false;
    }

pub overflow_add-size : goal.overflow_add-size
overflow_add-size c = omega (arith, c.line_size-size.ensures.1)

pub loop-i-preserved : goal.loop-i-preserved
loop-i-preserved c =
    let l = c.loop-i in
    let ns = notes_in c.args.score.notes.chart.now in
    let below : l.i < length ns = omega (arith, c.args.score.notes.counted) in
    let note = c.note-n.ensures in
    let good = rw note at (sym c.is_whole.ensures ∙ c.if-not-is_whole.false) in
    let size = rw note at c.line_size-size.ensures.0 in
    record {
      most = omega (arith, c.line_size-size.ensures.1);
      whole = l.invariant.whole ∙ whole_next ns l.i below good;
      bytes = omega (arith, l.invariant.bytes, lines_next c.args.score.columns ns l.i below, size);
    }

pub returns : goal.returns
unfolding size_of
returns c =
    let l = c.loop-i in
    let ns = notes_in c.args.score.notes.chart.now in
    let done : length ns ≤ l.i = omega (arith, c.args.score.notes.counted) in
    let size : length (chart_lines c.args.score.columns ns) ≡ l.size = l.invariant.bytes ∙ rw (lines_all c.args.score.columns ns l.i done) (omega arith) in
    rw (l.invariant.whole ∙ whole_all c.args.score.columns ns l.i done, size)
