-- The facts in force at a slider of an accepted record lie in document 01's ranges, so it does not end before its rounded start. Assumes nothing.
use Rattle.std.specs.Prelude.{if◌then◌else◌, Option, Some, None}
use mathlib.Core.Path.{refl}
use Prim.Native.Nat.{ℕ, ◌≤◌}
use mathlib.Core.Bool.{Bool, true, false}
use mathlib.Core.List.{List, [], ◌∷◌}
use lib.Dec.{lit≤}
use lib.Ieee.{Float, binary64, round, le}
use lib.Ieee.Fits.{round-fits}
use Rattle.model.specs.Limits.{most_spans, longest_beat, longest_distance}
use Rattle.floats.specs.Laws.Values.{UpTo}
use Rattle.floats.specs.Laws.Spans.{AtLeast}
use Rattle.mania.specs.declared.Facts.{Facts}
use Rattle.model.specs.declared.TimingPoint.{TimingPoint}
use Rattle.model.specs.declared.DifficultyPoint.{DifficultyPoint}
use Rattle.model.specs.declared.Object.{Object}
use Rattle.mania.specs.Steps.{double}
use Rattle.model.specs.ControlPoint.{beat_from, beat_at, velocity_from, velocity_at}
use Rattle.mania.specs.PathObject.{distance_of, start_time, end_time}
use Rattle.mania.specs.Laws.SliderTimes.{whole_upto}
use Rattle.mania.specs.Laws.SliderTimes as Times
use Rattle.mania.specs.Demand.{Each}
use Rattle.job.proofs.Times.{Span}
use Rattle.job.proofs.Ranges.{FitDistance}

-- ---- points in force

beat_from_law : (beat : Float) (ps : List TimingPoint) (time : Float) → Span longest_beat beat → Each (λ (t : TimingPoint). Span longest_beat t.beat) ps → Span longest_beat (beat_from beat ps time)
unfolding beat_from
beat_from_law beat [] time h k = h
beat_from_law beat (p ∷ ps) time h k = go (le p.time time) (beat_from_law p.beat ps time k.0 k.1)
  where
    go : (b : Bool) → Span longest_beat (beat_from p.beat ps time) → Span longest_beat (if b then beat_from p.beat ps time else beat)
    go true i = i
    go false i = h

pub beat_at_law : (ps : List TimingPoint) (time : Float) → Each (λ (t : TimingPoint). Span longest_beat t.beat) ps → Span longest_beat (beat_at ps time)
unfolding beat_at
beat_at_law [] time k = record { exact = round-fits binary64 false 1000 1; range = whole_upto binary64 1000 longest_beat (lit≤ tt) (lit≤ tt) }
beat_at_law (p ∷ ps) time k = beat_from_law p.beat ps time k.0 k.1

velocity_from_law : (v : Float) (ps : List DifficultyPoint) (time : Float) → AtLeast 10 v → Each (λ (t : DifficultyPoint). AtLeast 10 t.velocity) ps → AtLeast 10 (velocity_from v ps time)
unfolding velocity_from
velocity_from_law v [] time h k = h
velocity_from_law v (p ∷ ps) time h k = go (le p.time time) (velocity_from_law p.velocity ps time k.0 k.1)
  where
    go : (b : Bool) → AtLeast 10 (velocity_from p.velocity ps time) → AtLeast 10 (if b then velocity_from p.velocity ps time else v)
    go true i = i
    go false i = h

one_least : AtLeast 10 (double 1 1)
unfolding round
one_least = record { size = (refl, refl); low = lit≤ tt }

pub velocity_at_law : (ps : List DifficultyPoint) (time : Float) → Each (λ (t : DifficultyPoint). AtLeast 10 t.velocity) ps → AtLeast 10 (velocity_at ps time)
unfolding velocity_at
velocity_at_law ps time k = velocity_from_law (double 1 1) ps time one_least k

-- ---- the end

distance_upto : (d : Option Float) → FitDistance d → UpTo longest_distance (distance_of d)
unfolding distance_of
distance_upto None h = whole_upto binary64 0 longest_distance (lit≤ tt) (lit≤ tt)
distance_upto (Some d) h = h.range

pub not_before : (f : Facts) (o : Object) (spans : ℕ) (distance : Option Float) → spans ≤ most_spans → FitDistance distance → AtLeast 10 f.velocity → Span longest_beat f.beat → AtLeast 3 f.multiplier
    → start_time o ≤ end_time f o spans distance
not_before f o spans distance n d v b m = Times.not_before f o spans distance n (distance_upto distance d) v b.range m
