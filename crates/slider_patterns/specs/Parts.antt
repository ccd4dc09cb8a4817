-- What the patterns ask of a slider. Assumes nothing.
use Rattle.std.specs.Prelude.{◌+◌, ◌*◌, ◌^◌, ◌≤◌, ◌<◌}
use Rattle.model.specs.Limits.{most_spans}
use Rattle.mania.specs.declared.PathObjectPatternGenerator.{PathObjectPatternGenerator}

-- more than one column, times below 2 ^ 26, and at most 300 spans
pub record Fits (g : PathObjectPatternGenerator) : Type 0 where
  pub low : 2 ≤ g.columns
  pub high : g.columns ≤ 9
  pub times : g.start + (g.spans + 1) * g.length < 2 ^ 26
  pub ends : g.end < 2 ^ 26
  pub one : 1 ≤ g.spans
  pub spans : g.spans ≤ most_spans
