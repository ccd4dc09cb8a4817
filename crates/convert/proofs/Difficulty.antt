-- A job's difficulty is one that the single-object entry allows. Assumes nothing.
use mathlib.Core.Path.{◌≡◌, ap}
use Prim.Native.Nat.{ℕ, ◌≤◌}
use mathlib.Core.List.{List}
use lib.ListN.{length}
use Rattle.model.specs.Limits.{most_entries}
use Rattle.model.specs.Song.{Song}
use Rattle.record.specs.Record.{parse, accepted, counts_in, summary_of, checked_of}
use Rattle.record.proofs.Laws.Known.{known}
use Rattle.settings.specs.Difficulty.{difficulty_allowed}
use Rattle.convert.specs.Difficulty.{Allowed}
use Rattle.convert.proofs.Songs.{accepted_settings}

few_objects : (bytes : List ℕ) (s : Song) → parse bytes ≡ accepted s → length s.objects ≤ most_entries
unfolding summary_of counts_in
few_objects bytes s e = (known bytes (summary_of s) (ap checked_of e)).small.objects_le

pub allowed : (bytes : List ℕ) → Allowed bytes
allowed bytes s e = difficulty_allowed s (accepted_settings bytes s e) (few_objects bytes s e)
