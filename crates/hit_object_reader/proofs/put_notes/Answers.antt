-- `hit_object_reader::put_notes` meets its contract (`Loops`). The measure is the number of bytes left. Assumes nothing.
use Rattle.std.proofs.Common.{sym, arith}
use Rattle.hit_object_reader.proofs.Loops.{storing_first, storing_end, storing_room, storing_next}
use Rattle.hit_object_reader.proofs.put_notes.Goals as goal

pub loop-note-init : goal.loop-note-init
loop-note-init c = storing_first c.args.deck.columns c.args.s.now c.args.chart.now c.requires.room c.requires.lines

pub overflow_mul-i : goal.overflow_mul-i
overflow_mul-i c =
    let l = c.loop-note in
    let g = c.in-Some in
    omega (arith, storing_room c.args.deck.columns c.args.s.now c.args.chart.now c.requires.room l.chart l.i l.rest.now l.invariant g.note g.tail.now (sym g.ensures.value) g.ensures.bounds.2)

pub overflow_add-i : goal.overflow_add-i
overflow_add-i c =
    let l = c.loop-note in
    let g = c.in-Some in
    omega (arith, storing_room c.args.deck.columns c.args.s.now c.args.chart.now c.requires.room l.chart l.i l.rest.now l.invariant g.note g.tail.now (sym g.ensures.value) g.ensures.bounds.2)

pub put_note-requires : goal.put_note-requires
put_note-requires c =
    let l = c.loop-note in
    let g = c.in-Some in
    let room = storing_room c.args.deck.columns c.args.s.now c.args.chart.now c.requires.room l.chart l.i l.rest.now l.invariant g.note g.tail.now (sym g.ensures.value) g.ensures.bounds.2 in
    omega (arith, room, l.auto.chart)

pub loop-note-preserved : goal.loop-note-preserved
loop-note-preserved c =
    let l = c.loop-note in
    let g = c.in-Some in
    storing_next c.args.deck.columns c.args.s.now c.args.chart.now c.requires.room l.chart l.i l.rest.now l.invariant g.note g.tail.now (sym g.ensures.value) g.ensures.bounds.2 c.put_note.new.s c.put_note.ensures

pub returns : goal.returns
returns c =
    let l = c.loop-note in
    storing_end c.args.deck.columns c.args.s.now c.args.chart.now c.requires.room l.chart l.i l.rest.now l.invariant (sym c.in_default.ensures.value)
