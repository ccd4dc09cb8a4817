-- What `generate` asks and what it promises. Assumes nothing.
use Rattle.std.specs.Prelude.{◌≡◌, ℕ, ◌^◌, ◌≤◌, ◌<◌, List, Result, Ok, Err}
use Rattle.model.specs.Limits.{most_notes}
use Rattle.random.specs.Play.{on}
use Rattle.random.specs.declared.Draws.{Draws}
use Rattle.model.specs.declared.Object.{Object}
use Rattle.mania.specs.declared.Facts.{Facts}
use Rattle.mania.specs.declared.PrevValues.{PrevValues}
use Rattle.mania.specs.Object.{object}
use Rattle.mania.specs.Range.{InRange}
use Rattle.pattern.specs.Answers.{object_end}
use Rattle.random.specs.declared.Refused.{Refused}
use Rattle.pattern.specs.declared.Made.{Made}
use Rattle.object.specs.Notes.{note_at}

-- a deck, a previous pattern on it, an object in range, and two buffers of at least 602 words
pub record Asks (v : PrevValues) (columns : ℕ) (o : Object) (size spare_size : ℕ) : Type 0 where
  pub low : 1 ≤ columns
  pub high : columns ≤ 9
  pub mask : v.mask < 2 ^ columns
  pub last : v.last < columns
  pub range : InRange o
  pub words : most_notes ≤ size
  pub spare : most_notes ≤ spare_size

-- at most 602 notes, and a pattern on the deck for the next object
abbrev pub OnDeck : ℕ → Result (Made × Draws) Refused → Type 0
OnDeck columns (Ok (m, d)) = (m.pattern.count ≤ most_notes) × (m.pattern.mask < 2 ^ columns) × (m.pattern.last < columns)
OnDeck columns (Err e) = Unit {0}

-- the answer, with the words as they are left, is what the object's rule comes to
pub record Ends (f : Facts) (v : PrevValues) (columns : ℕ) (o : Object) (d : Draws) (words : List ℕ) (r : Result (Made × Draws) Refused) : Type 0 where
  pub says : object_end (note_at o) words r ≡ on (object f v columns o) d
  pub deck : OnDeck columns r
