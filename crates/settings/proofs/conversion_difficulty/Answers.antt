-- `settings::conversion_difficulty` meets its contract, by those of the functions that it calls. Assumes nothing.
use Rattle.std.proofs.Common.{◌∙◌, w32, rules}
use mir.ValLaws.{to_z-of_z}
use lib.Ieee.{round, of_bits}
use Rattle.mania.specs.PatternGenerator.{difficulty_by}
use Rattle.settings.proofs.conversion_difficulty.Goals as goal

pub returns : goal.returns
unfolding difficulty_by round of_bits
returns c =
    c.min.ensures
    ∙ rw (c.from-life.ensures, c.clamp.ensures, c.from.ensures, c.from-drain.ensures, to_z-of_z w32 c.drain_time.result (search rules), c.drain_time.ensures)
