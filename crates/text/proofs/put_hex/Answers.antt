-- `text::put_hex` meets its contract: a bit pattern is its 16 digits. Assumes nothing.
use mathlib.Core.Path.{refl}
use Rattle.text.specs.Text.{hex}
use Rattle.text.proofs.put_hex.Goals as goal

pub returns : goal.returns
unfolding hex
returns c = record { value = refl; s_after = c.put_digits.ensures }
