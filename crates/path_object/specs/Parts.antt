-- What the generator asks of a slider. Assumes nothing.
use Rattle.std.specs.Prelude.{◌-◌, ◌*◌, ◌^◌, ◌≤◌, ◌<◌}
use Rattle.model.specs.Limits.{most_spans}
use Rattle.mania.specs.declared.PathObjectPatternGenerator.{PathObjectPatternGenerator}

-- what a generator is given: a deck, spans that end by the slider's end, and a start below 2 ^ 25
pub record Ready (g : PathObjectPatternGenerator) : Type 0 where
  pub low : 1 ≤ g.columns
  pub high : g.columns ≤ 9
  pub early : g.start < 2 ^ 25
  pub share : g.length * g.spans ≤ g.end - g.start
  pub one : 1 ≤ g.spans
  pub spans : g.spans ≤ most_spans
