-- What is claimed of the single-object entry. Assumes nothing.
use Rattle.std.specs.Prelude.{◌≡◌, ◌⊎◌, ℕ, ◌*◌, ◌^◌, ◌≤◌, ◌<◌, List, eqb, length, if◌then◌else◌}
use Rattle.rules.specs.Numbers as Numbers
use Rattle.rules.specs.Rule.{Outcome, ended, refused, spent, run, taken}
use Rattle.rules.specs.Ledger.{Ledger, ledger}
use Rattle.rules.specs.Limited.{last_or}
use Rattle.rules.specs.Refusal.{Refusal, long_search, spent_number}
use Rattle.random.specs.Generator.{values, steps}
use Rattle.random.specs.declared.Random.{Random}
use Rattle.model.specs.declared.Object.{Object}
use Rattle.mania.specs.declared.Facts.{Facts}
use Rattle.mania.specs.declared.PrevValues.{PrevValues}
use Rattle.mania.specs.declared.Note.{Note}
use Rattle.mania.specs.declared.Stair.{Stair}
use Rattle.mania.specs.Made.{Made}
use Rattle.model.specs.Limits.{search_limit}
use Rattle.mania.specs.Object.{object}
use Rattle.mania.specs.Chart.{body, written}
use Rattle.mania.specs.Single.{made, refusal, Single, with_room, entry_refusal, single_object}
use Rattle.mania.specs.Refusals.{Late, NoValidColumn, OffTheDeck, Blocked, Below}
use Rattle.mania.specs.Demand.{Each, Lanes, OnDeck}
use Rattle.chart.specs.Layout.{note_size}

module _ (f : Facts) (v : PrevValues) (columns : ℕ) (o : Object) (r : Random) (buffer : List ℕ) where
  -- how the object's rule ends under an allowance, where the checks pass
  unfoldable pub under : ℕ → Outcome (Unit {0}) Refusal Made
  under a = run (with_room f v columns o (length buffer)) (values a r)

  -- how the draws divide among searches
  unfoldable pub ledger_under : ℕ → Ledger
  ledger_under a = ledger (with_room f v columns o (length buffer)) (values a r)

  -- how many draws are made: none where a check fails
  unfoldable pub draws : ℕ → ℕ
  draws a = if eqb (entry_refusal f v columns o) 0 then taken (under a) else 0

  abbrev pub entry : ℕ → Single
  entry a = single_object f v columns o r a buffer

  -- an end by 12, with the state that was lent
  abbrev pub Spent : Single → Type 0
  Spent j = j.answer ≡ refusal spent_number r

  -- what the entry gives where it makes notes: so many, with this mask, last column and stair, a state and draws
  pub record Gave (a k mask last : ℕ) (stair : Stair) (s : Random) (n : ℕ) : Type 0 where
    -- the state has made as many steps as draws are told
    pub state : s ≡ steps n r
    pub told : n ≡ draws a
    -- the notes, and where they are written; later bytes keep their values
    pub notes : List Note
    pub count : k ≡ length notes
    pub bytes : (entry a).notes ≡ written (body 0 notes) buffer
    pub room : note_size * k ≤ length buffer
    -- each lies on the deck, and no two share a lane
    pub deck : Each (OnDeck columns) notes
    pub lanes : Lanes notes
    -- mask and last column lie on the deck
    pub mask_on : mask < 2 ^ columns
    pub last_on : last < columns
    -- all of these are those of the object's rule
    pub made : run (object f v columns o) (values a r) ≡ ended (record { notes = notes; mask = mask; last = last; stair = stair }) n

  -- the entry makes notes
  pub record MakesNotes (a : ℕ) : Type 0 where
    pub count : ℕ
    pub mask : ℕ
    pub last : ℕ
    pub stair : Stair
    pub state : Random
    pub drawn : ℕ
    pub answer : (entry a).answer ≡ made count mask last stair state drawn

  -- the condition of a refusal by k
  pub record Condition (a k : ℕ) : Type 0 where
    -- 13, 4, 5 and 6: the first check that fails; else it is 8 to 12, or 16
    pub checked : (entry_refusal f v columns o ≡ 0 → ⊥) → k ≡ entry_refusal f v columns o
    pub from : entry_refusal f v columns o ≡ 0 → Numbers.slider_end ≤ k
    pub to : entry_refusal f v columns o ≡ 0 → (k ≤ Numbers.no_draw_left) ⊎ (k ≡ Numbers.long_search)
    -- 8: the object is a slider that ends above 33,554,431
    pub late : entry_refusal f v columns o ≡ 0 → k ≡ Numbers.slider_end → Late f o o.kind
    -- 9: a search has no valid column
    pub blocked : entry_refusal f v columns o ≡ 0 → k ≡ Numbers.no_column → NoValidColumn f v columns o r a
    -- 10: a column is off the deck
    pub off : entry_refusal f v columns o ≡ 0 → k ≡ Numbers.off_deck → OffTheDeck f v columns o r a
    -- 11: the object's rule makes notes, and they are longer than the buffer
    pub short : entry_refusal f v columns o ≡ 0 → k ≡ Numbers.chart_too_short → (m : Made) × (n : ℕ) × (run (object f v columns o) (values a r) ≡ ended m n) × (length buffer < note_size * length m.notes)
    -- 12: a draw was needed and none was left; the whole allowance was drawn
    pub drawn : entry_refusal f v columns o ≡ 0 → k ≡ Numbers.no_draw_left → under a ≡ spent tt a
    -- 16: one search, the last, made as many draws as it may, and needed one more
    pub long : entry_refusal f v columns o ≡ 0 → k ≡ Numbers.long_search → (n : ℕ) × (under a ≡ refused long_search n) × (last_or 0 (ledger_under a).searches ≡ search_limit)

  -- what is true where the entry refuses by k and gives a state s
  pub record RefusedBy (a k : ℕ) (s : Random) : Type 0 where
    -- the state is the one that was lent, and nothing is written
    pub lent : s ≡ r
    pub unwritten : (entry a).notes ≡ buffer
    pub condition : Condition a k

  -- Of one object with all that is lent, under every allowance.
  pub record Claims : Type 0 where
    -- an end by 12 has used the whole allowance
    pub whole : (a : ℕ) → Spent (entry a) → draws a ≡ a
    -- after another end, the entry ends by 12 exactly where the allowance is below the draws made
    pub below : (a b : ℕ) → (Spent (entry a) → ⊥) → b < draws a → entry b ≡ record { answer = refusal spent_number r; notes = buffer }
    pub only : (a b : ℕ) → (Spent (entry a) → ⊥) → Spent (entry b) → b < draws a
    -- and every other allowance gives the same answer and the same bytes
    pub same : (a b : ℕ) → (Spent (entry a) → ⊥) → draws a ≤ b → entry b ≡ entry a
    pub gave : (a k mask last : ℕ) (stair : Stair) (s : Random) (n : ℕ) → (entry a).answer ≡ made k mask last stair s n → Gave a k mask last stair s n
    pub refuses : (a k : ℕ) (s : Random) → (entry a).answer ≡ refusal k s → RefusedBy a k s
    -- where a condition holds the entry refuses so, so that no two hold under one allowance
    pub answers : (a k : ℕ) → Condition a k → entry a ≡ record { answer = refusal k r; notes = buffer }
    pub one : (a k l : ℕ) → Condition a k → Condition a l → k ≡ l
    -- where none holds it makes notes
    pub otherwise : (a : ℕ) → ((k : ℕ) → Condition a k → ⊥) → MakesNotes a
    -- 9 needs 8 columns, a previous pattern of exactly columns 1 to 7, and no circle
    pub blocked : (a : ℕ) → entry_refusal f v columns o ≡ 0 → NoValidColumn f v columns o r a → Blocked v columns o.kind
    -- 10 needs 8 columns and a circle in a reverse stair from column 0
    pub off : (a : ℕ) → entry_refusal f v columns o ≡ 0 → OffTheDeck f v columns o r a → Below f v columns o o.kind
