-- At each object of an accepted song the checks of the single-object entry pass, so that a walk's step is the entry with the song's values: `OneRule` of
-- mania's specs. Assumes nothing.
use Rattle.std.specs.Prelude.{◌≡◌, ℕ, List, ◌∷◌, drop}
use Rattle.rules.specs.Rule.{ended, run}
use Rattle.random.specs.Generator.{values}
use Rattle.random.specs.declared.Random.{Random}
use Rattle.model.specs.Song.{Song}
use Rattle.model.specs.declared.Object.{Object}
use Rattle.record.specs.Record.{accepted, parse}
use Rattle.mania.specs.Convert.{Walk, columns_of, song_facts, meets, facts_at}
use Rattle.mania.specs.Reached.{reaches}
use Rattle.mania.specs.Single.{entry_refusal}

-- With the values of an accepted song the checks of the single-object entry pass, for every generator state.
pub record EntryPasses (bytes : List ℕ) : Type 0 where
  -- the walk has come to w after k objects, from any state, and o is the next
  pub passes : (s : Song) → parse bytes ≡ accepted s → (k a n : ℕ) (r : Random) (w : Walk) → run (reaches s k) (values a r) ≡ ended w n
      → (o : Object) (os : List Object) → drop k s.objects ≡ o ∷ os
      → entry_refusal (facts_at (song_facts s) (meets o.kind o.start w.density) o) w.prev (columns_of s) o ≡ 0
