-- `convert::song_of` meets its contract: what the check of the record knows of its song. Assumes nothing.
use native.Mathlib.Omega.{arith}
use Rattle.record.specs.Record.{song_of}
use Rattle.convert.proofs.Songs.{long_le, columns_are, difficulty_is}
use Rattle.convert.proofs.song_of.Goals as goal

pub overflow_cast-long : goal.overflow_cast-long
overflow_cast-long c =
    let k = c.requires in
    record { fits = omega (arith, k.long, long_le (song_of c.args.bytes.now).objects, k.number, k.small.objects_le) }

pub returns : goal.returns
returns c =
    let k = c.requires in
    let bytes = c.args.bytes.now in
    let columns = columns_are bytes c.args.m k c.columns_of-columns.result c.columns_of-columns.ensures in
    rw (columns, difficulty_is bytes c.args.m k _ _ c.total_break_time-breaks.ensures c.conversion_difficulty-difficulty.ensures, k.settings)
