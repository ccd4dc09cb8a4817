-- `record::header::counts_of` meets its contract: what its calls ensure, put together; a count is below its field's power of 2.
-- Assumes nothing.
use Rattle.record.specs.Header.{counts_of}
use Rattle.record.specs.Laws.Counts.{small_counts}
use Rattle.record.proofs.header.counts_of.Goals as goal

pub returns : goal.returns
unfolding counts_of
returns c =
    let s = c.args.s.now in (
      simp (c.read_bits-objects.ensures, c.read_bits-effect.ensures, c.read_bits-difficulty.ensures, c.read_bits-timing.ensures, c.read_bits-breaks.ensures),
      simp (c.read_bits-objects.ensures, c.read_bits-effect.ensures, c.read_bits-difficulty.ensures, c.read_bits-timing.ensures, c.read_bits-breaks.ensures) (small_counts s),
    )
