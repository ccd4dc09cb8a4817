-- The note of a word of a circle's buffer, and the rule of a loop over the previous pattern. Assumes nothing.
use Rattle.std.specs.Prelude.{ℕ, ◌-◌, Float}
use Rattle.rules.specs.Refusal.{ObjectRule}
use Rattle.mania.specs.declared.HitObjectPatternGenerator.{HitObjectPatternGenerator}
use Rattle.mania.specs.declared.Note.{Note}
use Rattle.mania.specs.Made.{circle}
use Rattle.mania.specs.Pattern.{Pattern, empty}
use Rattle.mania.specs.PatternGenerator.{random_start}
use Rattle.mania.specs.HitObject.{add_each}
use Rattle.pattern.specs.Answers.{column_of}

-- a circle is at its object's start
unfoldable pub circle_at : Float → ℕ → Note
circle_at start w = circle (column_of w) start

-- a note for each column of the previous pattern, at the column `to` gives: `reversed` and `stacked` are of this form
abbrev pub each : HitObjectPatternGenerator → (ℕ → ℕ) → ObjectRule (Pattern Note)
each g to = add_each g to (g.columns - random_start g.columns) (random_start g.columns) empty
