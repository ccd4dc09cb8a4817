-- What an accepted record says of its song: the ranges of all fields, and the orders of its lists. Assumes nothing.
use Rattle.std.specs.Prelude.{◌≤◌, ◌<◌, ◌≡◌, true, false, List, [], ◌∷◌, T, length, Float, Option, Some, None, ℕ}
use Rattle.std.specs.Float.{Format, binary32, binary64}
use Rattle.std.specs.Float.Ieee.{fits, lt}
use Rattle.model.specs.Limits.{Range, most_repeats, most_breaks, most_entries, setting_range, multiplier_range, time_range, beat_range, velocity_range, span_range, coordinate_range, distance_range}
use Rattle.floats.specs.Range.{in_range}
use Rattle.model.specs.declared.Settings.{Settings}
use Rattle.model.specs.declared.BreakPeriod.{BreakPeriod}
use Rattle.model.specs.declared.TimingPoint.{TimingPoint}
use Rattle.model.specs.declared.DifficultyPoint.{DifficultyPoint}
use Rattle.model.specs.declared.EffectPoint.{EffectPoint}
use Rattle.model.specs.declared.Kind.{Kind}
use Rattle.model.specs.declared.Kind.TheVariants.{Circle, Slider, Spinner, Hold}
use Rattle.model.specs.declared.Object.{Object}
use Rattle.model.specs.Song.{Song}
use Rattle.rules.specs.Each.{Each}

-- a float of the format, in the range: no NaN, no infinity, no negative zero
pub record Bounded (f : Format) (range : Range) (x : Float) : Type 0 where
  pub exact : T (fits f x)
  pub inside : T (in_range range.low range.high x)

-- ---- settings and points

pub record FitSettings (s : Settings) : Type 0 where
  pub hp : Bounded binary32 setting_range s.hp
  pub cs : Bounded binary32 setting_range s.cs
  pub od : Bounded binary32 setting_range s.od
  pub ar : Bounded binary32 setting_range s.ar
  pub multiplier : Bounded binary64 multiplier_range s.multiplier

-- a break or point time
abbrev pub FitTime : Float → Type 0
FitTime = Bounded binary64 time_range

pub record FitBreak (b : BreakPeriod) : Type 0 where
  pub start : FitTime b.start
  pub end : FitTime b.end
  pub order : lt b.end b.start ≡ false

pub record FitTiming (p : TimingPoint) : Type 0 where
  pub time : FitTime p.time
  pub beat : Bounded binary64 beat_range p.beat

pub record FitDifficulty (p : DifficultyPoint) : Type 0 where
  pub time : FitTime p.time
  pub velocity : Bounded binary64 velocity_range p.velocity

abbrev pub FitEffect : EffectPoint → Type 0
FitEffect p = FitTime p.time

-- ---- objects

-- a start or a duration
abbrev pub FitSpan : Float → Type 0
FitSpan = Bounded binary64 span_range

abbrev pub FitDistance : Option Float → Type 0
FitDistance None = Unit {0}
FitDistance (Some d) = Bounded binary64 distance_range d

abbrev pub FitNode : Option ℕ → Type 0
FitNode None = Unit {0}
FitNode (Some sound) = sound < 16

abbrev pub FitKind : Kind → Type 0
FitKind Circle = Unit {0}
FitKind (Slider repeats distance sound) = (repeats ≤ most_repeats) × FitDistance distance × FitNode sound
FitKind (Spinner d) = FitSpan d
FitKind (Hold d) = FitSpan d

-- a coordinate
abbrev pub FitCoordinate : Float → Type 0
FitCoordinate = Bounded binary32 coordinate_range

pub record FitObject (o : Object) : Type 0 where
  pub x : FitCoordinate o.position.x
  pub y : FitCoordinate o.position.y
  pub start : FitSpan o.start
  pub sound : o.sound < 16
  pub kind : FitKind o.kind

-- ---- orders

-- each key is above the one before
abbrev pub RisesFrom : {A : Type 0} → (A → Float) → Float → List A → Type 0
RisesFrom key before [] = Unit {0}
RisesFrom key before (x ∷ xs) = (lt before (key x) ≡ true) × RisesFrom key (key x) xs

abbrev pub Rises : {A : Type 0} → (A → Float) → List A → Type 0
Rises key [] = Unit {0}
Rises key (x ∷ xs) = RisesFrom key (key x) xs

-- no start is below the one before
abbrev pub NoFallFrom : Float → List Object → Type 0
NoFallFrom before [] = Unit {0}
NoFallFrom before (o ∷ os) = (lt o.start before ≡ false) × NoFallFrom o.start os

abbrev pub NoFall : List Object → Type 0
NoFall [] = Unit {0}
NoFall (o ∷ os) = NoFallFrom o.start os

-- ---- the song

pub record FitSong (song : Song) : Type 0 where
  pub keys : song.keys ≤ 9
  pub settings : FitSettings song.settings
  pub breaks : Each FitBreak song.breaks
  pub timing : Each FitTiming song.timing_points
  pub difficulty : Each FitDifficulty song.difficulty_points
  pub effect : Each FitEffect song.effect_points
  pub objects : Each FitObject song.objects
  pub timing_rises : Rises (λ (p : TimingPoint). p.time) song.timing_points
  pub difficulty_rises : Rises (λ (p : DifficultyPoint). p.time) song.difficulty_points
  pub effect_rises : Rises (λ (p : EffectPoint). p.time) song.effect_points
  pub starts : NoFall song.objects
  pub few_breaks : length song.breaks ≤ most_breaks
  pub few_timing : length song.timing_points ≤ most_entries
  pub few_difficulty : length song.difficulty_points ≤ most_entries
  pub few_effect : length song.effect_points ≤ most_entries
  pub few_objects : length song.objects ≤ most_entries
