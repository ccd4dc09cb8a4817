-- `convert::convert` meets its contract. Assumes nothing.
use mathlib.Core.Path.{sym, ◌∙◌}
use Rattle.rules.specs.Coded.{code}
use Rattle.record.specs.Laws.Known.{checked_refused}
use Rattle.record.proofs.Laws.Known.{known}
use Rattle.convert.proofs.Jobs.{refused_job}
use Rattle.convert.proofs.convert.Goals as goal

pub convert_song-requires : goal.convert_song-requires
convert_song-requires c = known c.args.bytes.now c.in-Ok.m (sym c.in-Ok.ensures)

pub returns-in-Err : goal.returns-in-Err
returns-in-Err c =
    let e = checked_refused c.args.bytes.now (code c.in-Err.refusal) (sym c.in-Err.ensures) in
    c.refused.ensures ∙ refused_job c.args.bytes.now c.args.chart.now c.args.allowance (code c.in-Err.refusal) e
