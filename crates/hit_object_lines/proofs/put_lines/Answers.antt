-- `hit_object_lines::put_lines` meets its contract. The invariant: the lines of the first i notes are stored. Assumes nothing.
use mathlib.Core.Path.{◌≡◌, sym, ◌∙◌}
use Prim.Native.Nat.{◌+◌, ◌≤◌, ◌<◌}
use native.Mathlib.Omega.{arith}
use lib.ListN.{length, get_or, take}
use lib.Seq.{take_all}
use Rattle.chart.specs.Chart.{notes_in, blank}
use Rattle.chart.specs.Laws.Bytes.{splice_none}
use Rattle.text.specs.Laws.{wrote_first, wrote_next}
use Rattle.hit_object_lines.specs.Lines.{line_text, line_of}
use Rattle.hit_object_lines.specs.Laws.Notes.{standing_at}
use Rattle.hit_object_lines.specs.Laws.Chart.{whole_at, lines_none, lines_more, lines_next, lines_split}
use Rattle.hit_object_lines.proofs.put_lines.Goals as goal

pub loop-i-init : goal.loop-i-init
loop-i-init c =
    let a = c.args in
    let none = lines_none a.score.columns (notes_in a.score.notes.chart.now) in
    wrote_first _ (rw none (sym (splice_none a.s.now 0 (omega arith)))) (rw none)

pub note-n-requires : goal.note-n-requires
note-n-requires c = omega (arith, c.args.score.notes.counted)

pub put_line-at-requires : goal.put_line-at-requires
put_line-at-requires c =
    let l = c.loop-i in
    let ns = notes_in c.args.score.notes.chart.now in
    let below : l.i < length ns = omega (arith, c.args.score.notes.counted) in
    let note = c.note-n.ensures in (
      record {
        some_columns = c.args.score.some_columns;
        stands = rw note (standing_at c.args.score.columns 0 ns c.args.score.ok l.i blank below);
        whole = rw note (whole_at ns c.requires.whole l.i blank below);
      },
      rw note (omega (arith, c.loop-i.auto.s, l.invariant.next, c.requires.room, lines_split c.args.score.columns ns l.i, lines_next c.args.score.columns ns l.i below)),
    )

pub loop-i-preserved : goal.loop-i-preserved
loop-i-preserved c =
    let note = c.note-n.ensures in
    let l = c.loop-i in
    let ns = notes_in c.args.score.notes.chart.now in
    let below : l.i < length ns = omega (arith, c.args.score.notes.counted) in
    let fits : l.at + length (line_text (line_of c.args.score.columns (get_or ns l.i blank))) ≤ length c.args.s.now =
    omega (arith, l.invariant.next, c.requires.room, lines_split c.args.score.columns ns l.i, lines_next c.args.score.columns ns l.i below) in
    let line = wrote_next (line_text (line_of c.args.score.columns (get_or ns l.i blank))) l.invariant (c.put_line-at.ensures.s_after ∙ rw note) (c.put_line-at.ensures.value ∙ rw note) (rw (c.put_line-at.ensures.value, note) fits) in
    rw (lines_more c.args.score.columns ns l.i below) line

pub returns : goal.returns
returns c =
    let l = c.loop-i in
    let ns = notes_in c.args.score.notes.chart.now in
    let all : take l.i ns ≡ ns = take_all l.i ns (omega (arith, c.args.score.notes.counted)) in
    let lines = rw all at l.invariant in
    lines.bytes
