-- convert/mod.rs: the seed, the column count and the walk over a song's objects. Assumes nothing.
use Rattle.std.specs.Prelude.{ℕ, zero, suc, ◌+◌, ◌*◌, min, max, ◌||◌, List, [], ◌∷◌, eqb, leb, ltb, Float, length, if◌then◌else◌}
use Rattle.std.specs.Float.{binary32, binary64}
use Rattle.std.specs.Float.Ieee.{add, mul, div, lt}
use Rattle.rules.specs.Rule.{Rule, give, refuse, label, ◌>>=◌}
use Rattle.rules.specs.Refusal.{Refusal, too_short, ObjectRule}
use Rattle.floats.specs.Whole.{count}
use Rattle.floats.specs.declared.Way.TheVariants.{Cut, Even}
use Rattle.model.specs.declared.Settings.{Settings}
use Rattle.model.specs.declared.Position.{Position}
use Rattle.model.specs.declared.Kind.{Kind}
use Rattle.model.specs.declared.Kind.TheVariants.{Circle, Slider, Spinner, Hold}
use Rattle.model.specs.declared.Object.{Object}
use Rattle.model.specs.declared.TimingPoint.{TimingPoint}
use Rattle.model.specs.declared.DifficultyPoint.{DifficultyPoint}
use Rattle.model.specs.declared.EffectPoint.{EffectPoint}
use Rattle.model.specs.Song.{Song}
use Rattle.mania.specs.declared.Facts.{Facts}
use Rattle.mania.specs.declared.PrevValues.{PrevValues}
use Rattle.mania.specs.declared.Stair.{Stair}
use Rattle.mania.specs.declared.Stair.TheVariants.{Up}
use Rattle.mania.specs.declared.Note.{Note}
use Rattle.mania.specs.Steps.{single, double, double#}
use Rattle.model.specs.ControlPoint.{beat_at, velocity_at, kiai_at}
use Rattle.model.specs.Totals.{sliders_and_spinners}
use Rattle.mania.specs.LimitedQueue.{Density, compute_density, unknown_density}
use Rattle.mania.specs.PatternGenerator.{conversion_difficulty}
use Rattle.mania.specs.PathObject.{span_length}
use Rattle.mania.specs.Made.{Made}
use Rattle.mania.specs.Object.{object}
use Rattle.chart.specs.Layout.{header_size, chart_size}

-- ---- the seed and the columns

-- round(hp + cs)·20 + od·41.2 cut toward zero + round(ar)
unfoldable pub seed : Settings → ℕ
seed s = count Even (add binary32 s.hp s.cs) * 20 + count Cut (mul binary32 s.od (single 412 10)) + count Even s.ar

-- by od alone: the last branch of `target_columns`
unfoldable pub columns_by_od : ℕ → ℕ
columns_by_od od = max (min (od + 1) 7) 4

-- by the share of sliders and spinners, and cs and od rounded
unfoldable pub columns_by_share : Float → ℕ → ℕ → ℕ
columns_by_share share cs od =
    if lt share (double 2 10) then 7
    else if lt share (double 3 10) || leb 5 cs then (if ltb 5 od then 7 else 6)
    else if lt (double 6 10) share then (if ltb 4 od then 5 else 4)
    else columns_by_od od

-- by cs and od rounded, where `long` of the objects are sliders or spinners; the share is a quotient in f64
unfoldable pub columns_at : ℕ → ℕ → ℕ → ℕ → ℕ
columns_at long objects cs od = if eqb objects 0 then columns_by_od od else columns_by_share (div binary64 (double# long) (double# objects)) cs od

-- and by the settings
unfoldable pub columns_by : Settings → ℕ → ℕ → ℕ
columns_by s long objects = columns_at long objects (count Even s.cs) (count Even s.od)

-- `target_columns` without a key choice
unfoldable pub target_columns : Settings → List Object → ℕ
target_columns s objects = columns_by s (sliders_and_spinners objects) (length objects)

-- the key choice, else another count
unfoldable pub keys_or : ℕ → ℕ → ℕ
keys_or keys other = if eqb keys 0 then other else keys

-- the key choice, else `target_columns`
unfoldable pub columns_of : Song → ℕ
columns_of s = keys_or s.keys (target_columns s.settings s.objects)

-- ---- the walk

-- what the walk has come to: the previous values, the density with its last times, and how many notes were made
pub record Walk : Type 0 where
  pub prev : PrevValues
  pub density : Density
  pub notes : ℕ

-- `PrevValues::default`
unfoldable pub beginning : Walk
beginning =
    record {
      prev = record { time = double 0 1; position = record { x = single 0 1; y = single 0 1 }; mask = 0; last = 0; stair = Up };
      density = unknown_density;
      notes = 0;
    }

-- a circle counts in the density before its pattern is made
unfoldable pub meets : Kind → Float → Density → Density
meets Circle start d = compute_density start d
meets (Slider repeats distance sound) start d = d
meets (Spinner duration) start d = d
meets (Hold duration) start d = d

-- `conversion_difficulty` of a song
unfoldable pub difficulty_of : Song → Float
difficulty_of s = conversion_difficulty s.settings s.breaks s.objects

-- what the walk takes of a song beside its objects
pub record SongFacts : Type 0 where
  pub difficulty : Float
  pub multiplier : Float
  pub timing_points : List TimingPoint
  pub difficulty_points : List DifficultyPoint
  pub effect_points : List EffectPoint

unfoldable pub song_facts : Song → SongFacts
song_facts s =
    record {
      difficulty = difficulty_of s;
      multiplier = s.settings.multiplier;
      timing_points = s.timing_points;
      difficulty_points = s.difficulty_points;
      effect_points = s.effect_points;
    }

-- the facts in force at an object
unfoldable pub facts_at : SongFacts → Density → Object → Facts
facts_at s d o =
    record {
      difficulty = s.difficulty;
      multiplier = s.multiplier;
      beat = beat_at s.timing_points o.start;
      velocity = velocity_at s.difficulty_points o.start;
      kiai = kiai_at s.effect_points o.start;
      density = d.value;
    }

-- the time of a slider's n-th node, from its start as it was given
unfoldable pub node_time : Object → ℕ → ℕ → Float
node_time o length n = add binary64 o.start (mul binary64 (double# length) (double# n))

-- the density after the nodes from n on, so many of them
unfoldable pub nodes : Object → ℕ → ℕ → ℕ → Density → Density
nodes o length zero n d = d
nodes o length (suc k) n d = nodes o length k (suc n) (compute_density (node_time o length n) d)

-- `segment_duration` of a slider; 0 where an object has no spans
unfoldable pub span_in : Facts → Object → Kind → ℕ
span_in f o Circle = 0
span_in f o (Slider repeats distance sound) = span_length f o repeats distance
span_in f o (Spinner duration) = 0
span_in f o (Hold duration) = 0

-- the density after an object. The Rust counts a slider's nodes before it makes the pattern, which does not read the density
unfoldable pub leaves : Object → ℕ → Kind → Density → Density
leaves o span Circle d = d
leaves o span (Slider repeats distance sound) d = nodes o span (repeats + 2) 0 d
leaves o span (Spinner duration) d = compute_density (add binary64 o.start duration) d
leaves o span (Hold duration) d = compute_density (add binary64 o.start duration) d

-- the previous time after an object: of a slider its last node's
unfoldable pub time_after : Object → ℕ → Kind → Float
time_after o span Circle = o.start
time_after o span (Slider repeats distance sound) = node_time o span (repeats + 1)
time_after o span (Spinner duration) = add binary64 o.start duration
time_after o span (Hold duration) = add binary64 o.start duration

-- the previous position after an object: of a spinner or a hold the middle
unfoldable pub position_after : Object → Kind → Position
position_after o Circle = o.position
position_after o (Slider repeats distance sound) = o.position
position_after o (Spinner duration) = record { x = single 256 1; y = single 192 1 }
position_after o (Hold duration) = record { x = single 256 1; y = single 192 1 }

-- the walk after an object, by the mask, last column and stair that it left and the count of its notes
unfoldable pub walk_after : Facts → Object → Density → ℕ → ℕ → Stair → ℕ → Walk → Walk
walk_after f o d mask last stair count w =
    let span = span_in f o o.kind in
    record {
      prev = record { time = time_after o span o.kind; position = position_after o o.kind; mask = mask; last = last; stair = stair };
      density = leaves o span o.kind d;
      notes = w.notes + count;
    }

-- the walk after an object and what it made
unfoldable pub after_object : Facts → Object → Density → Made → Walk → Walk
after_object f o d made w = walk_after f o d made.mask made.last made.stair (length made.notes) w

-- a refusal in a walk, and the object's index
pub record AtObject : Type 0 where
  pub refusal : Refusal
  pub object : ℕ

-- the refusal r at object i
abbrev pub at : ℕ → Refusal → AtObject
at i r = record { refusal = r; object = i }

-- an object of the walk: its rule, and then 11 where a chart of all notes so far is longer than the buffer, whose length is `room`
unfoldable pub object_in : ℕ → ℕ → Facts → Walk → Object → ObjectRule Made
object_in columns room f w o = do
  made ← object f w.prev columns o
  if ltb room (chart_size (w.notes + length made.notes)) then refuse too_short else give made

-- the notes of each object from the i-th on, in walk order
unfoldable pub walk : SongFacts → ℕ → ℕ → ℕ → Walk → List Object → Rule ℕ AtObject (List (List Note))
walk s columns room i w [] = give []
walk s columns room i w (o ∷ os) = do
  let d = meets o.kind o.start w.density
  let f = facts_at s d o
  made ← label (λ p. i) (at i) (object_in columns room f w o)
  rest ← walk s columns room (suc i) (after_object f o d made w) os
  give (made.notes ∷ rest)

-- `convert`, of a song that was read: 11 for a buffer that does not hold a header, and then the walk
unfoldable pub convert : Song → ℕ → Rule ℕ AtObject (List (List Note))
convert s room =
    if ltb room header_size then refuse (at 0 too_short)
    else walk (song_facts s) (columns_of s) room 0 beginning s.objects
