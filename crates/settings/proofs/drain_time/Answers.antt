-- `settings::drain_time` meets its contract, by those of the functions that it calls. A signed result is read back from its bits. Assumes nothing.
use Rattle.std.proofs.Common.{ap, ◌∙◌, w32, rules}
use mir.ValLaws.{to_z-of_z}
use lib.Ieee.{round, of_bits}
use Rattle.mania.specs.PatternGenerator.{or_ten_thousand, drain_time}
use Rattle.settings.proofs.drain_time.Goals as goal

pub returns : goal.returns
unfolding drain_time round of_bits
returns c =
    to_z-of_z w32 c.or_ten_thousand.result (search rules)
    ∙ c.or_ten_thousand.ensures
    ∙ ap or_ten_thousand (to_z-of_z w32 c.to_whole.result (search rules) ∙ c.to_whole.ensures)
