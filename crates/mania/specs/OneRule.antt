-- A step of a walk and the single-object entry are one rule. Assumes nothing.
use Rattle.std.specs.Prelude.{◌≡◌, ℕ, suc, ◌+◌, ◌-◌, max, List, [], ◌∷◌, length}
use Rattle.rules.specs.Ledger.{longest}
use Rattle.rules.specs.Refusal.{ObjectRule}
use Rattle.random.specs.Generator.{values}
use Rattle.random.specs.Play.{Answer, refused, tallied}
use Rattle.random.specs.declared.Random.{Random}
use Rattle.random.specs.declared.Draws.{Draws}
use Rattle.model.specs.declared.Object.{Object}
use Rattle.mania.specs.declared.Facts.{Facts}
use Rattle.mania.specs.declared.Note.{Note}
use Rattle.mania.specs.declared.Stair.{Stair}
use Rattle.mania.specs.Made.{Made}
use Rattle.mania.specs.LimitedQueue.{Density}
use Rattle.mania.specs.Object.{object}
use Rattle.mania.specs.Convert.{Walk, SongFacts, meets, facts_at, walk_after, walk}
use Rattle.mania.specs.Walked.{Stop, stop, on_walk}
use Rattle.mania.specs.Chart.{body, written}
use Rattle.mania.specs.Single.{made, refusal, Single, entry_refusal, single_object}
use Rattle.mania.specs.Laws.Walks.{before}
use Rattle.chart.specs.Layout.{chart_size}

-- A walk with any difficulty that the entry allows has come to w, object i of the song is next and `os` follow it, with the generator's state and the draws left in d; `buffer` is what the
-- notes so far leave of the chart buffer.
module _ (s : SongFacts) (columns i : ℕ) (w : Walk) (o : Object) (os : List Object) (d : Draws) (buffer : List ℕ) where
  -- the density and the facts at the object, and its rule
  abbrev pub met : Density
  met = meets o.kind o.start w.density

  abbrev pub facts : Facts
  facts = facts_at s met o

  abbrev pub rule : ObjectRule Made
  rule = object facts w.prev columns o

  -- the single-object entry with the song's values
  abbrev pub entry : Single
  entry = single_object facts w.prev columns o d.random d.tally.left buffer

  -- the walk's length of the chart buffer
  abbrev pub room : ℕ
  room = chart_size w.notes + length buffer

  -- the walk from the object on
  abbrev pub here : Answer Stop (List (List Note))
  here = on_walk (walk s columns room i w (o ∷ os)) d

  -- the walk after the object, by the mask, last column and stair that it left and the count of its notes
  abbrev pub next : ℕ → ℕ → Stair → ℕ → Draws → Answer Stop (List (List Note))
  next mask last stair count e = on_walk (walk s columns room (suc i) (walk_after facts o met mask last stair count w) os) e

  -- the walk goes on after it with what the entry gave: k notes, mask, last column, stair, the state r and n draws
  pub record GoesOn (k mask last : ℕ) (stair : Stair) (r : Random) (n : ℕ) : Type 0 where
    -- the notes are those that the entry wrote
    pub notes : List Note
    pub count : k ≡ length notes
    pub bytes : entry.notes ≡ written (body 0 notes) buffer
    -- as many draws fewer are left, and the longest search may be one of the object's
    pub walks : here ≡ before (notes ∷ []) (next mask last stair k (tallied (d.tally.left - n) (max d.tally.longest (longest rule (values d.tally.left d.random))) r))

  -- Where the entry's checks pass: it makes notes where the walk goes on, and with the same values; a refusal is the walk's, at this object.
  pub record OneRule : Type 0 where
    pub goes_on : entry_refusal facts w.prev columns o ≡ 0
        → (k mask last : ℕ) (stair : Stair) (r : Random) (n : ℕ) → entry.answer ≡ made k mask last stair r n → GoesOn k mask last stair r n
    pub stops : entry_refusal facts w.prev columns o ≡ 0 → (k : ℕ) (r : Random) → entry.answer ≡ refusal k r → (e : Draws) × (here ≡ refused (stop i k) e)
