-- The control points in force at a time: control_point/timing.rs, difficulty.rs and effect.rs. The times of each list rise strictly.
-- Assumes nothing.
use Rattle.std.specs.Prelude.{Bool, false, List, [], ◌∷◌, Float, if◌then◌else◌}
use Rattle.std.specs.Float.{binary64}
use Rattle.std.specs.Float.Ieee.{round, le}
use Rattle.model.specs.declared.TimingPoint.{TimingPoint}
use Rattle.model.specs.declared.DifficultyPoint.{DifficultyPoint}
use Rattle.model.specs.declared.EffectPoint.{EffectPoint}

-- the beat length of the last point that is not after the time, or else the one given
unfoldable pub beat_from : Float → List TimingPoint → Float → Float
beat_from beat [] time = beat
beat_from beat (p ∷ ps) time = if le p.time time then beat_from p.beat ps time else beat

-- `timing_point_at`: before the first point, the first one; without points the default, 1000
unfoldable pub beat_at : List TimingPoint → Float → Float
beat_at [] time = round binary64 false 1000 1
beat_at (p ∷ ps) time = beat_from p.beat ps time

-- the velocity of the last point that is not after the time, or else the one given
unfoldable pub velocity_from : Float → List DifficultyPoint → Float → Float
velocity_from velocity [] time = velocity
velocity_from velocity (p ∷ ps) time = if le p.time time then velocity_from p.velocity ps time else velocity

-- `difficulty_point_at`: before the first point the default, 1
unfoldable pub velocity_at : List DifficultyPoint → Float → Float
velocity_at ps time = velocity_from (round binary64 false 1 1) ps time

-- the kiai of the last point that is not after the time, or else the one given
unfoldable pub kiai_from : Bool → List EffectPoint → Float → Bool
kiai_from kiai [] time = kiai
kiai_from kiai (p ∷ ps) time = if le p.time time then kiai_from p.kiai ps time else kiai

-- `effect_point_at`: before the first point the default, no
unfoldable pub kiai_at : List EffectPoint → Float → Bool
kiai_at ps time = kiai_from false ps time
