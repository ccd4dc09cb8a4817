-- One object of a walk. Assumes nothing.
use Rattle.std.specs.Prelude.{◌≡◌, refl, ℕ, zero, suc, ◌+◌, ◌-◌, ◌<◌, List, ◌∷◌}
use Rattle.std.proofs.Common.{add-zero}
use Rattle.model.specs.Totals.{longer}
use Rattle.record.specs.Object.{kind_by, slider_at, read_object, object_end, objects}
use Rattle.record.specs.Post.{is_long}
use Rattle.record.specs.Laws.Entries.{entries_cons}

-- a list of objects that is not empty is the first, and the objects from its end on
pub objects_cons : (s : List ℕ) (p n : ℕ) → 0 < n → objects s p n ≡ read_object s p ∷ objects s (object_end s p) (n - 1)
unfolding objects
objects_cons s p n h = entries_cons (read_object s) (object_end s) p n h

-- what an object adds to the number of sliders and spinners
pub longer_by : (s : List ℕ) (q k n : ℕ) → longer (kind_by s q k) n ≡ n + is_long k
unfolding kind_by longer slider_at
longer_by s q zero n = rw add-zero
longer_by s q (suc zero) n = refl
longer_by s q (suc (suc zero)) n = refl
longer_by s q (suc (suc (suc k))) n = rw add-zero
