-- Songs announced with rounded figures: which column counts are possible, and when a slider ends at the earliest and at the latest. Assumes nothing.
use Rattle.std.specs.Prelude.{◌≡◌, ℕ, ◌+◌, ◌/◌, ◌%◌, ◌^◌, ◌≤◌, ◌<◌, Bool, false, not, ◌&&◌, ◌||◌, T, eqb, ltb, Float, length, if◌then◌else◌, Option, Some, None, Result, Ok, Err}
use Rattle.std.specs.Float.{binary32, binary64}
use Rattle.std.specs.Float.Ieee.{fits, le}
use Rattle.model.specs.Limits.{most_entries, setting_range}
use Rattle.rules.specs.Numbers as Numbers
use Rattle.rules.specs.Coded.{code}
use Rattle.rules.specs.declared.Refusal.{Refusal}
use Rattle.floats.specs.Range.{in_range}
use Rattle.model.specs.Song.{Song}
use Rattle.model.specs.Totals.{sliders_and_spinners}
use Rattle.model.specs.declared.Object.{Object}
use Rattle.model.specs.declared.Kind.TheVariants as Kind
use Rattle.mania.specs.declared.Facts.{Facts}
use Rattle.mania.specs.declared.PrevValues.{PrevValues}
use Rattle.mania.specs.declared.Stair.TheVariants.{Up}
use Rattle.mania.specs.Steps.{single, double}
use Rattle.mania.specs.Single as Single
use Rattle.mania.specs.Single.{entry_refusal}
use Rattle.mania.specs.PathObject.{end_time, latest}
use Rattle.mania.specs.Convert.{columns_of}
use Rattle.announced.specs.declared.Bounds.{Bounds}
use Rattle.announced.specs.declared.Slider.{Slider}

-- ---- the columns

-- both ends are settings that a record can have, and the lower is not above the upper
unfoldable pub setting_fits : Bounds Float → Bool
setting_fits range = Single.inside setting_range range.low && Single.inside setting_range range.high && le range.low range.high

-- the number of the first check that fails, 0 where none does; `long` of the objects are sliders or spinners
unfoldable pub columns_refusal : Bounds Float → Bounds Float → ℕ → ℕ → ℕ
columns_refusal od cs long objects =
    if not (setting_fits od && setting_fits cs) then Numbers.range
    else if ltb most_entries objects || ltb objects long then Numbers.counts
    else 0

-- an f32 of the range
abbrev pub SettingIn : Bounds Float → Float → Type 0
SettingIn range x = T (fits binary32 x) × T (in_range range.low range.high x)

-- some song as announced has c columns: no key choice, od and cs in the ranges, and `objects` objects, `long` of them sliders or spinners
pub record Yields (od cs : Bounds Float) (long objects c : ℕ) : Type 0 where
  pub song : Song
  pub no_keys : song.keys ≡ 0
  pub od_in : SettingIn od song.settings.od
  pub cs_in : SettingIn cs song.settings.cs
  pub counted : length song.objects ≡ objects
  pub counted_long : sliders_and_spinners song.objects ≡ long
  pub gives : columns_of song ≡ c

-- the answer: bit c is 1 exactly where the ranges yield c
abbrev pub ColumnsAre : Bounds Float → Bounds Float → ℕ → ℕ → Result ℕ Refusal → Type 0
ColumnsAre od cs long objects (Ok mask) =
    (columns_refusal od cs long objects ≡ 0)
    × ((c : ℕ) → (mask / 2 ^ c % 2 ≡ 1 → Yields od cs long objects c) × (Yields od cs long objects c → mask / 2 ^ c % 2 ≡ 1))
ColumnsAre od cs long objects (Err r) = (columns_refusal od cs long objects ≡ code r) × (0 < code r)

-- ---- a slider's end

-- the facts that a slider's end takes, the others 0
unfoldable pub facts_of : Slider → Facts
facts_of slider = record { difficulty = double 0 1; multiplier = slider.multiplier; beat = slider.beat; velocity = slider.velocity; kiai = false; density = double 0 1 }

unfoldable pub object_of : Slider → Option Float → Object
object_of slider distance = record { position = slider.position; start = slider.start; sound = slider.sound; kind = Kind.Slider slider.repeats distance slider.node }

-- the end with a distance
unfoldable pub end_at : Slider → Float → ℕ
end_at slider distance = end_time (facts_of slider) (object_of slider (Some distance)) (slider.repeats + 1) (Some distance)

-- no object before
unfoldable pub nothing : PrevValues
nothing = record { time = double 0 1; position = record { x = single 0 1; y = single 0 1 }; mask = 0; last = 0; stair = Up }

-- the rest of the slider, checked by the single-object entry: with one column and nothing before only 4, 5 and 6 can come (`Laws.rest_is`)
unfoldable pub rest_refusal : Slider → ℕ
rest_refusal slider = entry_refusal (facts_of slider) nothing 1 (object_of slider None)

-- both ends are distances that the single-object entry takes, and the lower is not above the upper
unfoldable pub distance_fits : Bounds Float → Bool
distance_fits range = Single.distance_fits (Some range.low) && Single.distance_fits (Some range.high) && le range.low range.high

-- the number of the first check that fails, 0 where none does; the latest end is that of the largest distance
unfoldable pub ends_refusal : Slider → Bounds Float → ℕ
ends_refusal slider range =
    if not (eqb (rest_refusal slider) 0) then rest_refusal slider
    else if not (distance_fits range) then Numbers.range
    else if ltb latest (end_at slider range.high) then Numbers.slider_end
    else 0

-- an f64 of the range
abbrev pub DistanceIn : Bounds Float → Float → Type 0
DistanceIn range distance = T (fits binary64 distance) × T (in_range range.low range.high distance)

-- every distance in the range ends between the two, and each of the two is reached
pub record EndsFrom (slider : Slider) (range : Bounds Float) (earliest latest : ℕ) : Type 0 where
  pub within : (distance : Float) → DistanceIn range distance → (earliest ≤ end_at slider distance) × (end_at slider distance ≤ latest)
  pub first : (distance : Float) × DistanceIn range distance × (end_at slider distance ≡ earliest)
  pub last : (distance : Float) × DistanceIn range distance × (end_at slider distance ≡ latest)

-- the answer
abbrev pub EndsAre : Slider → Bounds Float → Result (ℕ × ℕ) Refusal → Type 0
EndsAre slider range (Ok (earliest, latest)) = (ends_refusal slider range ≡ 0) × EndsFrom slider range earliest latest
EndsAre slider range (Err r) = (ends_refusal slider range ≡ code r) × (0 < code r)
