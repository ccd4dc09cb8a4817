-- `text::put_number` meets its contract: as many digits are stored as the number has. Assumes nothing.
use mathlib.Core.Path.{◌≡◌, ◌∙◌}
use native.Mathlib.Omega.{arith}
use lib.Dec.{ltb}
use Rattle.text.specs.Text.{places, decimal}
use Rattle.text.specs.Laws.{length_digits}
use Rattle.text.proofs.put_number.Goals as goal

pub returns : goal.returns
unfolding decimal
returns c =
    let n = c.args.n in
    let k = c.places-k in
    let size : k.result ≡ places n (ltb n 10) n = k.ensures.0 ∙ length_digits 10 (places n (ltb n 10) n) n in
    record { value = omega (arith, k.ensures.0); s_after = c.put_digits.ensures ∙ rw size }
