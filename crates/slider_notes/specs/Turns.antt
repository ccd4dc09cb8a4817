-- What the loops ask. Assumes nothing.
use Rattle.std.specs.Prelude.{ℕ, ◌≤◌, ◌<◌}
use Rattle.mania.specs.declared.PathObjectPatternGenerator.{PathObjectPatternGenerator}

-- a column on a deck of at most 9
abbrev pub OnDeck : PathObjectPatternGenerator → ℕ → Type 0
OnDeck g c = (1 ≤ g.columns) × (g.columns ≤ 9) × (c < g.columns)
