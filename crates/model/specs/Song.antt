-- A song, as a job record has it: what the conversion's rules are given. Assumes nothing.
use Rattle.std.specs.Prelude.{ℕ, List}
use Rattle.model.specs.declared.Settings.{Settings}
use Rattle.model.specs.declared.BreakPeriod.{BreakPeriod}
use Rattle.model.specs.declared.TimingPoint.{TimingPoint}
use Rattle.model.specs.declared.DifficultyPoint.{DifficultyPoint}
use Rattle.model.specs.declared.EffectPoint.{EffectPoint}
use Rattle.model.specs.declared.Object.{Object}

-- `keys` is the key choice, 0 where there is none.
pub record Song : Type 0 where
  pub keys : ℕ
  pub settings : Settings
  pub breaks : List BreakPeriod
  pub timing_points : List TimingPoint
  pub difficulty_points : List DifficultyPoint
  pub effect_points : List EffectPoint
  pub objects : List Object
