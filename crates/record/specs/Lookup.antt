-- How a point in force is found: by the number of points that are not after the time. Assumes nothing.
use Rattle.std.specs.Prelude.{ℕ, suc, ◌+◌, ◌*◌, ◌<◌, ◌≡◌, true, cond, List, [], ◌∷◌, Float}
use Rattle.std.specs.Float.Ieee.{lt, le}
use Rattle.record.specs.declared.section.Section.{Section}
use Rattle.record.specs.Refusal.{f64_at, entries}
use Rattle.record.specs.Section.{width_of, entry_end}

-- the times of n points from bit p on
unfoldable pub times : Section → List ℕ → ℕ → ℕ → List Float
unfolding f64_at entries
times k s p n = entries (f64_at s) (entry_end k) p n

-- how many of the times, from the first on, are at most t
unfoldable pub up_to : Float → List Float → ℕ
up_to t [] = 0
up_to t (x ∷ xs) = cond (le x t) (suc (up_to t xs)) 0

-- each of n points from bit p on has a time above that of the one before
unfoldable pub Rising : Section → List ℕ → ℕ → ℕ → Type 0
unfolding f64_at lt
Rising k s p n = (i : ℕ) → i + 1 < n → lt (f64_at s (p + width_of k * i)) (f64_at s (p + width_of k * (i + 1))) ≡ true
