-- The conditions of a walk's refusals. Assumes nothing.
use Rattle.std.specs.Prelude.{◌≡◌, ℕ, zero, suc, ◌+◌, ◌≤◌, ◌<◌, List, [], ◌∷◌, true, false, length, take}
use Rattle.std.specs.Int.Count.{ones}
use Rattle.rules.specs.Rule.{give, refuse, Outcome, ended, refused, run}
use Rattle.rules.specs.Refusal.{late_end, no_column, off_deck}
use Rattle.random.specs.Generator.{values, seeded}
use Rattle.random.specs.declared.Random.{Random}
use Rattle.mania.specs.declared.Facts.{Facts}
use Rattle.mania.specs.declared.PrevValues.{PrevValues}
use Rattle.mania.specs.declared.Note.{Note}
use Rattle.mania.specs.declared.Next.{Next}
use Rattle.mania.specs.declared.Next.TheVariants.{Draw, Step}
use Rattle.model.specs.declared.Object.{Object}
use Rattle.model.specs.declared.Kind.{Kind}
use Rattle.model.specs.declared.Kind.TheVariants.{Circle, Slider, Spinner, Hold}
use Rattle.mania.specs.PatternType.{reverse_stair, contains}
use Rattle.mania.specs.Pattern.{Pattern, free, put, add}
use Rattle.mania.specs.Object.{object}
use Rattle.mania.specs.HitObject
use Rattle.mania.specs.PathObject.{end_time, latest}
use Rattle.model.specs.Song.{Song}
use Rattle.mania.specs.Convert.{SongFacts, AtObject, seed, columns_of, song_facts, facts_at, beginning, walk}
use Rattle.mania.specs.PatternGenerator.{random_start, column_search}
use Rattle.mania.specs.Chart.{in_walk_order}
use Rattle.chart.specs.Layout.{header_size, chart_size}

-- 8: a slider ends above the latest time
unfoldable pub Late : Facts → Object → Kind → Type 0
Late f o Circle = ⊥
Late f o (Slider repeats distance sound) = latest < end_time f o (repeats + 1) distance
Late f o (Spinner duration) = ⊥
Late f o (Hold duration) = ⊥

-- the object at an index does; of the facts in force the end takes velocity, beat length and multiplier alone
unfoldable pub LateAt : SongFacts → List Object → ℕ → Type 0
LateAt s [] i = ⊥
LateAt s (o ∷ os) zero = Late (facts_at s beginning.density o) o o.kind
LateAt s (o ∷ os) (suc i) = LateAt s os i

-- 9: run from state r under allowance a, the object's rule reaches a search that has no valid column
abbrev pub NoValidColumn : Facts → PrevValues → ℕ → Object → Random → ℕ → Type 0
NoValidColumn f v columns o r a = (n : ℕ) × (run (object f v columns o) (values a r) ≡ refused no_column n)

-- 10: it reaches a column off the deck
abbrev pub OffTheDeck : Facts → PrevValues → ℕ → Object → Random → ℕ → Type 0
OffTheDeck f v columns o r a = (n : ℕ) × (run (object f v columns o) (values a r) ≡ refused off_deck n)

-- no column is valid for a search: each that it could give, its first and those of its range, is taken
pub record NoneValid (initial lower upper taken : ℕ) : Type 0 where
  pub first : free taken initial ≡ false
  pub range : (c : ℕ) → lower ≤ c → c < upper → free taken c ≡ false

-- 9 needs 8 columns and a previous pattern of exactly columns 1 to 7: it takes every column that a search may give, and does not fill the deck. A circle
-- is never refused by 9
unfoldable pub Blocked : PrevValues → ℕ → Kind → Type 0
Blocked v columns Circle = ⊥
Blocked v columns (Slider repeats distance sound) = (columns ≡ 8) × (v.mask ≡ 254)
Blocked v columns (Spinner duration) = (columns ≡ 8) × (v.mask ≡ 254)
Blocked v columns (Hold duration) = (columns ≡ 8) × (v.mask ≡ 254)

-- 10 needs 8 columns and a circle in a reverse stair from column 0, the previous pattern's only column
unfoldable pub Below : Facts → PrevValues → ℕ → Object → Kind → Type 0
Below f v columns o Circle = (columns ≡ 8) × (v.last ≡ 0) × (ones v.mask ≡ 1) × (contains (HitObject.new f v columns o).flags reverse_stair ≡ true)
Below f v columns o (Slider repeats distance sound) = ⊥
Below f v columns o (Spinner duration) = ⊥
Below f v columns o (Hold duration) = ⊥

-- Where 9 and 10 arise in the rules: only a column search refuses `no_column` (PatternGenerator.antt), only `add` refuses `off_deck` (Pattern.antt).
pub record Sources : Type 1 where
  -- A search is refused where no column is valid, before any draw,
  pub none : (next : Next) (columns initial lower upper taken : ℕ) → NoneValid initial lower upper taken → column_search next columns initial lower upper taken ≡ refuse no_column
  -- and only there: one that draws,
  pub drawn : (columns initial lower upper taken a n : ℕ) (r : Random)
      → run (column_search Draw columns initial lower upper taken) (values a r) ≡ refused no_column n → NoneValid initial lower upper taken
  -- and one that steps, which goes round the deck.
  pub stepped : (columns initial taken a n : ℕ) (r : Random) → random_start columns ≤ initial → initial < columns
      → run (column_search Step columns initial (random_start columns) columns taken) (values a r) ≡ refused no_column n → NoneValid initial (random_start columns) columns taken
  -- A note is refused where its column is off the deck, and only there.
  pub off : {A : Type 0} (columns c : ℕ) (note : A) (p : Pattern A) → columns ≤ c → add columns note c p ≡ refuse off_deck
  pub on : {A : Type 0} (columns c : ℕ) (note : A) (p : Pattern A) → c < columns → add columns note c p ≡ give (put note c p)
  -- `Blocked` is such a search: off the previous pattern, from any column that it could give.
  pub blocked : (v : PrevValues) (columns : ℕ) (k : Kind) → Blocked v columns k → (c : ℕ) → random_start columns ≤ c → c < columns → NoneValid c (random_start columns) columns v.mask
  -- `Below` is such a column: that before column 0, in 8 bits.
  pub below : (f : Facts) (v : PrevValues) (columns : ℕ) (o : Object) (k : Kind) → Below f v columns o k → columns ≤ HitObject.reverse_stair_column (HitObject.new f v columns o)

-- how the walk over a song's first k objects ends, with so much room
abbrev pub first_objects : Song → (room allowance k : ℕ) → Outcome ℕ AtObject (List (List Note))
first_objects s room allowance k =
    run (walk (song_facts s) (columns_of s) room 0 beginning (take k s.objects)) (values allowance (seeded (seed s.settings)))

-- 8: the buffer holds a header and the notes of the objects before index i, which took n draws, and the slider at index i ends too late.
pub record TooLate (s : Song) (room allowance i n : ℕ) : Type 0 where
  pub header : header_size ≤ room
  pub nss : List (List Note)
  pub made : first_objects s room allowance i ≡ ended nss n
  pub late : LateAt (song_facts s) s.objects i

-- A refusal r of a walk over `os` whose first object has index i, if its previous patterns are `Reached`.
pub record InWalk (s : SongFacts) (i : ℕ) (os : List Object) (r : AtObject) : Type 0 where
  -- 8: the k-th of them is a slider that ends too late
  pub late : r.refusal ≡ late_end → (k : ℕ) × (r.object ≡ i + k) × LateAt s os k
  -- never 9 or 10
  pub found : r.refusal ≡ no_column → ⊥
  pub on : r.refusal ≡ off_deck → ⊥

-- 11: the buffer holds a header and the notes of the objects before index i. With room enough the one at index i makes its notes too, after n draws
-- in all, and a chart of them is longer than the room that there is.
pub record TooLong (s : Song) (room allowance i n : ℕ) : Type 0 where
  pub header : header_size ≤ room
  pub before : List (List Note)
  pub drawn : ℕ
  pub fit : first_objects s room allowance i ≡ ended before drawn
  pub nss : List (List Note)
  pub made : (wide : ℕ) → chart_size (length (in_walk_order nss)) ≤ wide → first_objects s wide allowance (suc i) ≡ ended nss n
  pub long : room < chart_size (length (in_walk_order nss))
