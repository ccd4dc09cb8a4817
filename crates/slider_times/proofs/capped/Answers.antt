-- `slider_times::capped` meets its contract. Assumes nothing.
use Rattle.slider_times.specs.Chances.{chances}
use Rattle.slider_times.proofs.Tables.{capped_is}
use Rattle.slider_times.proofs.capped.Goals as goal

pub returns : goal.returns
returns c =
    rw (c.min.ensures, c.min-2.ensures, c.min-3.ensures)
    (capped_is c.args.columns (chances c.args.c) (chances c.caps-k.result) c.caps-k.ensures)
