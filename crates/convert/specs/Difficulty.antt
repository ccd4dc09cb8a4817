-- The difficulty that a job's walk is given. Assumes nothing.
use Rattle.std.specs.Prelude.{◌≡◌, ℕ, true, List}
use Rattle.model.specs.Song.{Song}
use Rattle.record.specs.Record.{parse, accepted}
use Rattle.mania.specs.Convert.{difficulty_of}
use Rattle.mania.specs.Single.{allowed_difficulty}

-- It is one that the single-object entry allows. With every such difficulty a walk's step is the entry: `OneRule` in mania's specs/OneRule.antt.
abbrev pub Allowed : List ℕ → Type 0
Allowed bytes = (s : Song) → parse bytes ≡ accepted s → allowed_difficulty (difficulty_of s) ≡ true
