-- The previous patterns that a song can reach, and why they rule out refusals 9 and 10. Assumes nothing.
use Rattle.std.specs.Prelude.{◌≡◌, ◌⊎◌, ℕ, zero, suc, ◌≤◌, true, List, [], ◌∷◌, length, take}
use Rattle.std.specs.Int.Count.{ones}
use Rattle.rules.specs.Numbers as Numbers
use Rattle.rules.specs.Rule.{give, ◌>>=◌, ended, run}
use Rattle.rules.specs.Refusal.{ObjectRule}
use Rattle.random.specs.Generator.{values}
use Rattle.random.specs.declared.Random.{Random}
use Rattle.model.specs.Song.{Song}
use Rattle.model.specs.declared.Object.{Object}
use Rattle.mania.specs.declared.Facts.{Facts}
use Rattle.mania.specs.declared.PrevValues.{PrevValues}
use Rattle.mania.specs.declared.Note.{Note}
use Rattle.mania.specs.Made.{Made}
use Rattle.mania.specs.LimitedQueue.{Density}
use Rattle.mania.specs.Object.{object}
use Rattle.mania.specs.Convert.{Walk, SongFacts, columns_of, song_facts, beginning, meets, facts_at, after_object, walk}
use Rattle.mania.specs.Chart.{in_walk_order}
use Rattle.mania.specs.Refusals.{NoValidColumn, OffTheDeck}
use Rattle.mania.specs.Single.{refusal, pattern_fits, single_object}

-- The most columns that a previous pattern holds in a song of 8 columns.
abbrev pub most : ℕ
most = 5

-- The mask of a previous pattern in a song of 8 columns.
pub record ReachedOf8 (mask : ℕ) : Type 0 where
  -- It holds at most five columns,
  pub few : ones mask ≤ most
  -- and does not consist of column 0 alone.
  pub beside : mask ≡ 1 → ⊥

-- True of every previous pattern that a song reaches from its beginning: `Reasons`.
pub record Reached (columns : ℕ) (v : PrevValues) : Type 0 where
  pub of_8 : columns ≡ 8 → ReachedOf8 v.mask
  -- With any column count the single-object entry accepts it: 13 does not apply.
  pub fits : pattern_fits v columns ≡ true

-- The state of the walk after its first k objects, without the buffer's limit.
unfoldable pub walk_to : SongFacts → ℕ → ℕ → Walk → List Object → ObjectRule Walk
walk_to s columns zero w os = give w
walk_to s columns (suc k) w [] = give w
walk_to s columns (suc k) w (o ∷ os) = do
  let d = meets o.kind o.start w.density
  let f = facts_at s d o
  made ← object f w.prev columns o
  walk_to s columns k (after_object f o d made w) os

-- The same from the beginning of a song.
unfoldable pub reaches : Song → ℕ → ObjectRule Walk
reaches s k = walk_to (song_facts s) (columns_of s) k beginning s.objects

-- From the state r, under the allowance a, `reaches s k` ends after n draws with `notes` notes.
pub record Follows (s : Song) (k a n : ℕ) (r : Random) (notes : ℕ) : Type 0 where
  pub to : Walk
  pub after : run (reaches s k) (values a r) ≡ ended to n
  pub made : to.notes ≡ notes

-- Whatever is drawn, every search for a column has a valid one (no 9), and every column lies on the deck (no 10).
pub record Valid (f : Facts) (v : PrevValues) (columns : ℕ) (o : Object) : Type 0 where
  pub found : (a : ℕ) (r : Random) → NoValidColumn f v columns o r a → ⊥
  pub on : (a : ℕ) (r : Random) → OffTheDeck f v columns o r a → ⊥

-- Why 9 and 10 cannot come out of a job.
pub record Reasons : Type 0 where
  -- A song begins with a `Reached` pattern, and every object keeps it so, whatever is drawn.
  pub begins : (columns : ℕ) → 1 ≤ columns → columns ≤ 9 → Reached columns beginning.prev
  pub kept : (f : Facts) (o : Object) (d : Density) (w : Walk) (columns : ℕ) → Reached columns w.prev
      → (a n : ℕ) (r : Random) (made : Made) → run (object f w.prev columns o) (values a r) ≡ ended made n → Reached columns (after_object f o d made w).prev
  -- `reaches` follows the walk: if `walk` ends over the first k objects, so does `reaches`, after as many draws and with as many notes.
  pub follows : (s : Song) (room k a n : ℕ) (r : Random) (nss : List (List Note))
      → run (walk (song_facts s) (columns_of s) room 0 beginning (take k s.objects)) (values a r) ≡ ended nss n
      → Follows s k a n r (length (in_walk_order nss))
  -- By `begins` and `kept` it comes only to `Reached` patterns, from any state of the generator. An accepted record has at most 9 columns.
  pub reached : (s : Song) → columns_of s ≤ 9 → (k a n : ℕ) (r : Random) (w : Walk) → run (reaches s k) (values a r) ≡ ended w n → Reached (columns_of s) w.prev
  -- After such a pattern no object is refused by 9 or 10.
  pub valid : (f : Facts) (v : PrevValues) (columns : ℕ) (o : Object) → Reached columns v → Valid f v columns o
  -- With a column count other than 8 that is so after every pattern which the single-object entry accepts.
  pub others : (f : Facts) (v : PrevValues) (columns : ℕ) (o : Object) → (columns ≡ 8 → ⊥) → pattern_fits v columns ≡ true → Valid f v columns o
  -- So if the single-object entry refuses by 9 or 10, no song reaches the previous pattern that it was given.
  pub lent : (f : Facts) (v : PrevValues) (columns : ℕ) (o : Object) (r s : Random) (a k : ℕ) (buffer : List ℕ)
      → (single_object f v columns o r a buffer).answer ≡ refusal k s → (k ≡ Numbers.no_column) ⊎ (k ≡ Numbers.off_deck) → Reached columns v → ⊥
