-- Settings of an accepted record: hp, cs, od and ar from 0 to 10. Assumes nothing.
use Rattle.std.specs.Prelude.{T}
use Rattle.floats.specs.Range.{in_range}
use Rattle.model.specs.declared.Settings.{Settings}
use Rattle.model.specs.Limits.{setting_range}

pub record Accepted (s : Settings) : Type 0 where
  pub hp : T (in_range setting_range.low setting_range.high s.hp)
  pub cs : T (in_range setting_range.low setting_range.high s.cs)
  pub od : T (in_range setting_range.low setting_range.high s.od)
  pub ar : T (in_range setting_range.low setting_range.high s.ar)
