-- Instants: a finite f64 as a whole number of 2 ^ -1074 ms, negative ones too. What covers an instant, and how far it is.
-- Assumes nothing.
use Rattle.std.specs.Prelude.{◌≡◌, Bool, true, cond, ◌&&◌, ℕ, ◌<◌, leb, ltb, ℤ, pos, neg_ℤ, nat_abs, ◌-ℤ◌, Float, Option, Some, None}
use Rattle.std.specs.Int.Signed.{lt_z, le_z}
use Rattle.std.specs.Float.{nan, inf, fin}
use Rattle.floats.specs.Ticks.{ticks}
use Rattle.chart.specs.Time.{time}
use Rattle.floats.specs.Format.{infinity}

unfoldable pub instant : Float → ℤ
instant nan = pos 0
instant (inf s) = pos 0
instant (fin s m e) = cond s (neg_ℤ (pos (ticks (fin s m e)))) (pos (ticks (fin s m e)))

-- from a first tick to a last one, ends included
unfoldable pub covers_at : ℕ → ℕ → ℤ → Bool
covers_at first last t = le_z (pos first) t && le_z t (pos last)

-- the same without the ends
unfoldable pub inside_at : ℕ → ℕ → ℤ → Bool
inside_at first last t = lt_z (pos first) t && lt_z t (pos last)

-- between a tick and an instant
unfoldable pub distance : ℕ → ℤ → ℕ
distance s t = nat_abs (pos s -ℤ t)

-- a finite f64 is the time of a bit pattern, or it is negative
unfoldable pub Tells : Float → Option ℕ → Type 0
Tells t (Some b) = (b < infinity) × (instant t ≡ pos (ticks (time b)))
Tells t None = lt_z (instant t) (pos 0) ≡ true

-- bit patterns of times from r on are those at or after an instant
unfoldable pub FirstAt : Float → ℕ → Type 0
FirstAt t r = (s : ℕ) → s < infinity → leb r s ≡ le_z (instant t) (pos (ticks (time s)))

-- bit patterns of times below r are those at or before an instant
unfoldable pub FirstAfter : Float → ℕ → Type 0
FirstAfter t r = (s : ℕ) → s < infinity → ltb s r ≡ le_z (pos (ticks (time s))) (instant t)
