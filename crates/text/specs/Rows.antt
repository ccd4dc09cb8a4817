-- Worked examples, computed. Assumes nothing.
use Rattle.std.specs.Prelude.{◌≡◌, refl}
use Rattle.text.specs.Text.{ascii, digit, digits, places, decimal}

zero : decimal 0 ≡ ascii "0"
unfolding decimal places digits digit ascii
zero = refl
