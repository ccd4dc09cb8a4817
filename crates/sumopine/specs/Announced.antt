-- Songs announced with rounded figures: what a host in C gets. A whole number is the host's own, also where it is above what the field can hold. Assumes
-- nothing.
use Rattle.std.specs.Prelude.{◌≡◌, ℕ, ◌/◌, ◌%◌, ◌^◌, Float}
use Rattle.announced.specs.declared.Bounds.{Bounds}
use Rattle.announced.specs.declared.Slider.{Slider}
use Rattle.announced.specs.Announced.{columns_refusal, Yields, ends_refusal, EndsFrom}
use Rattle.object_numbers.specs.Single.{node_of}

abbrev pub setting_range : Float → Float → Bounds Float
setting_range low high = record { low = low; high = high }

abbrev pub distance_range : Float → Float → Bounds Float
distance_range low high = record { low = low; high = high }

-- a slider without its distance; it has a node sound where the flag is not 0
abbrev pub slider_of : Float → Float → Float → Float → Float → Float → ℕ → ℕ → ℕ → ℕ → Slider
slider_of multiplier beat velocity x y start sound repeats given node =
    record { multiplier = multiplier; beat = beat; velocity = velocity; position = record { x = x; y = y }; start = start; sound = sound; repeats = repeats; node = node_of given node }

-- the number and the column counts, a bit for each
pub record CountsTold (od cs : Bounds Float) (long objects number counts : ℕ) : Type 0 where
  pub refusal : number ≡ columns_refusal od cs long objects
  -- bit c is 1 exactly where the ranges yield c
  pub among : number ≡ 0 → (c : ℕ) → (counts / 2 ^ c % 2 ≡ 1 → Yields od cs long objects c) × (Yields od cs long objects c → counts / 2 ^ c % 2 ≡ 1)
  -- a refusal gives 0
  pub none : (number ≡ 0 → ⊥) → counts ≡ 0

-- the number and the two ends
pub record EndsTold (s : Slider) (r : Bounds Float) (number earliest latest : ℕ) : Type 0 where
  pub refusal : number ≡ ends_refusal s r
  -- every distance in the range ends between the two, and each of the two is reached
  pub from : number ≡ 0 → EndsFrom s r earliest latest
  -- a refusal gives 0 and 0
  pub none : (number ≡ 0 → ⊥) → (earliest ≡ 0) × (latest ≡ 0)
