-- The part of check 13 that is a function of its own. Assumes nothing.
use Rattle.std.specs.Prelude.{ℕ, Bool, not, ◌&&◌, eqb, ltb, if◌then◌else◌}
use Rattle.mania.specs.Pattern.{free}

-- a last column of the mask, or 0 with an empty one
unfoldable pub last_fits : ℕ → ℕ → ℕ → Bool
last_fits mask last columns = if eqb mask 0 then eqb last 0 else ltb last columns && not (free mask last)
