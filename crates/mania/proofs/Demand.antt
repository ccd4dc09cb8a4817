-- What the notes of a walk have in common: the deck, the lanes and more. Assumes nothing.
use Rattle.std.specs.Prelude.{if◌then◌else◌}
use mathlib.Core.Path.{◌≡◌, refl, sym, subst}
use Prim.Native.Nat.{ℕ, suc, ◌+◌, ◌-◌, ◌*◌, ◌/◌, ◌≤◌, ◌<◌}
use native.Mathlib.Nat.{div-mul-le_self, mul-pos}
use native.Mathlib.Omega.{arith}
use mathlib.Core.Bool.{Bool, true, false, ◌||◌}
use mathlib.Core.List.{List, [], ◌∷◌}
use lib.Dec.{eqb, leb, ltb, lit≤}
use lib.Ieee.{Float, le, lt}
use lib.ListN.{length}
use borrow.Author.Tests.{eqb-false}
use Rattle.rules.specs.Rule.{ended}
use Rattle.random.specs.Generator.{seeded}
use Rattle.model.specs.declared.Settings.{Settings}
use Rattle.mania.specs.declared.Facts.{Facts}
use Rattle.mania.specs.declared.PrevValues.{PrevValues}
use Rattle.model.specs.declared.Object.{Object}
use Rattle.mania.specs.declared.Note.{Note}
use Rattle.mania.specs.declared.SliderNote.{SliderNote}
use Rattle.model.specs.declared.Kind.{Kind}
use Rattle.model.specs.declared.Kind.TheVariants.{Circle, Slider, Spinner, Hold}
use Rattle.mania.specs.Steps.{double}
use Rattle.mania.specs.Made.{circle}
use Rattle.mania.specs.LimitedQueue.{Density}
use Rattle.mania.specs.EndTimeObject
use Rattle.mania.specs.HitObject
use Rattle.mania.specs.PathObject
use Rattle.mania.specs.Object.{by_kind, object}
use Rattle.mania.specs.Convert
use Rattle.model.specs.Song.{Song}
use Rattle.mania.specs.Convert.{Walk, SongFacts, song_facts, at, seed, columns_of, convert}
use Rattle.mania.specs.Job.{under}
use Rattle.mania.specs.Demand.{Each, Lanes, OnDeck}
use Rattle.mania.proofs.Makes.{Makes, giving, refusing, seq, by, labelled, ran}
use Rattle.mania.proofs.CircleLanes.{circle_lanes}
use Rattle.mania.proofs.SliderLanes.{slider_lanes}
use Rattle.mania.proofs.EndLanes.{end_lanes}
use Rattle.mania.proofs.Bars.{note_column_law}
use Rattle.chart.specs.Layout.{chart_size}

-- the spans of a slider lie before its end
pub spans_fit : (s e n : ℕ) → 0 < n → 0 < (e - s) / n → s + (e - s) / n * n ≤ e
spans_fit s e n h k =
    let part : (e - s) / n * n ≤ e - s = div-mul-le_self (e - s) n in
    let some : 0 < (e - s) / n * n = mul-pos k h in
    omega arith

pub some_spans : (n : ℕ) → 0 < n + 1
some_spans n = omega arith

-- Of the notes that can come from an object, P holds: a circle at its start, a note that ends with it, or the note of a bar that a slider can make.
abbrev pub Fine : (Note → Type 0) → Facts → ℕ → Object → Kind → Type 0
Fine P f columns o Circle = (c : ℕ) → c < columns → P (circle c o.start)
Fine P f columns o (Slider repeats distance sound) =
    ((c t e : ℕ) → c < columns → t ≤ e → e ≤ PathObject.end_time f o (repeats + 1) distance → PathObject.end_time f o (repeats + 1) distance ≤ PathObject.latest
    → P (PathObject.note_of (record { column = c; start = t; end = e })))
    × ((c : ℕ) → c < columns → PathObject.end_time f o (repeats + 1) distance ≤ PathObject.latest
    → P (PathObject.note_of (record { column = c; start = PathObject.start_time o; end = PathObject.end_time f o (repeats + 1) distance })))
    × ((c : ℕ) → c < columns → PathObject.end_time f o (repeats + 1) distance ≤ PathObject.latest
    → P (PathObject.note_of (record { column = c; start = PathObject.start_time o; end = PathObject.start_time o })))
Fine P f columns o (Spinner duration) = (c : ℕ) → c < columns → P (EndTimeObject.end_note o (EndTimeObject.lasting o duration) c)
Fine P f columns o (Hold duration) = (c : ℕ) → c < columns → P (EndTimeObject.end_note o (EndTimeObject.lasting o duration) c)

-- no two notes share a lane, and P holds of each
abbrev pub Sound : (Note → Type 0) → List Note → Type 0
Sound P ns = Lanes ns × Each P ns

module _ (P : Note → Type 0) (columns : ℕ) (t : 1 ≤ columns) where
  kind_notes : (f : Facts) (v : PrevValues) (o : Object) (k : Kind) → Fine P f columns o k → Makes (λ made. Sound P made.notes) (by_kind f v columns o k)
  unfolding by_kind HitObject.new PathObject.new PathObject.span_length
  kind_notes f v o Circle h = circle_lanes (HitObject.new f v columns o) P h t
  kind_notes f v o (Slider repeats distance sound) h =
      slider_lanes (PathObject.new f v columns o repeats distance sound) P h.0 h.1 h.2 (some_spans repeats)
      (λ l. spans_fit (PathObject.start_time o) (PathObject.end_time f o (repeats + 1) distance) (repeats + 1) (some_spans repeats) l)
  kind_notes f v o (Spinner duration) h = end_lanes v columns o duration P h
  kind_notes f v o (Hold duration) h = end_lanes v columns o duration P h

  -- of one object, whatever it meets
  pub object_notes : (f : Facts) (v : PrevValues) (o : Object) → Fine P f columns o o.kind → Makes (λ made. Sound P made.notes) (object f v columns o)
  unfolding object
  object_notes f v o h = kind_notes f v o o.kind h

  object_in_notes : (room : ℕ) (f : Facts) (w : Walk) (o : Object) → Fine P f columns o o.kind → Makes (λ made. Sound P made.notes) (Convert.object_in columns room f w o)
  unfolding Convert.object_in
  object_in_notes room f w o h =
      seq (object_notes f w.prev o h)
      (λ made h. by (ltb room (chart_size (w.notes + length made.notes))) _ _ (λ e. refusing) (λ e. giving h))

  -- of each object of a walk
  walk_notes : (s : SongFacts) (room i : ℕ) (w : Walk) (os : List Object)
      → Each (λ o. (d : Density) → Fine P (Convert.facts_at s d o) columns o o.kind) os
      → Makes (Each (Sound P)) (Convert.walk s columns room i w os)
  unfolding Convert.walk
  walk_notes s room i w [] h = giving tt
  walk_notes s room i w (o ∷ os) h =
      let d = Convert.meets o.kind o.start w.density in
      let f = Convert.facts_at s d o in
      seq (labelled (λ p. i) (at i) (object_in_notes room f w o (h.0 d)))
      (λ made k. seq (walk_notes s room (suc i) (Convert.after_object f o d made w) os h.1) (λ rest l. giving (k, l)))

-- ---- the columns are 1 to 9, where the key choice is at most 9

abbrev Deck : ℕ → Type 0
Deck n = (1 ≤ n) × (n ≤ 9)

pick : (b : Bool) (m n : ℕ) → Deck m → Deck n → Deck (if b then m else n)
pick true m n h k = h
pick false m n h k = k

od_deck : (od : ℕ) → Deck (Convert.columns_by_od od)
unfolding Convert.columns_by_od
od_deck od = (omega arith, omega arith)

share_deck : (share : Float) (cs od : ℕ) → Deck (Convert.columns_by_share share cs od)
unfolding Convert.columns_by_share
share_deck share cs od =
    pick (lt share (double 2 10)) _ _ (lit≤ tt, lit≤ tt)
    (pick (lt share (double 3 10) || leb 5 cs) _ _ (pick (ltb 5 od) 7 6 (lit≤ tt, lit≤ tt) (lit≤ tt, lit≤ tt))
    (pick (lt (double 6 10) share) _ _ (pick (ltb 4 od) 5 4 (lit≤ tt, lit≤ tt) (lit≤ tt, lit≤ tt)) (od_deck od)))

pub at_deck : (long objects cs od : ℕ) → Deck (Convert.columns_at long objects cs od)
unfolding Convert.columns_at
at_deck long objects cs od = pick (eqb objects 0) _ _ (od_deck od) (share_deck _ cs od)

target_deck : (s : Settings) (os : List Object) → Deck (Convert.target_columns s os)
unfolding Convert.target_columns Convert.columns_by
target_deck s os = at_deck _ _ _ _

pub some_columns : (s : Song) → 1 ≤ columns_of s
unfolding columns_of Convert.keys_or
some_columns s = go (eqb s.keys 0) refl
  where
    some : (k : ℕ) → (k ≡ 0 → ⊥) → 1 ≤ k
    some k n = omega arith

    go : (b : Bool) → eqb s.keys 0 ≡ b → 1 ≤ (if b then Convert.target_columns s.settings s.objects else s.keys)
    go true e = (target_deck s.settings s.objects).0
    go false e = some s.keys (eqb-false s.keys 0 e)

pub few_columns : (s : Song) → s.keys ≤ 9 → columns_of s ≤ 9
unfolding columns_of Convert.keys_or
few_columns s h = go (eqb s.keys 0)
  where
    go : (b : Bool) → (if b then Convert.target_columns s.settings s.objects else s.keys) ≤ 9
    go true = (target_deck s.settings s.objects).1
    go false = h

-- P holds of the notes that can come from each object of a song
abbrev pub Notes : (Note → Type 0) → Song → Type 0
Notes P s =
    Each (λ o. (d : Density) → Fine P (Convert.facts_at (song_facts s) d o) (columns_of s) o o.kind) s.objects

convert_notes : (P : Note → Type 0) (s : Song) (room : ℕ) → Notes P s → Makes (Each (Sound P)) (convert s room)
unfolding convert
convert_notes P s room h = by (ltb room 8) _ _ (λ e. refusing) (λ e. walk_notes P (columns_of s) (some_columns s) (song_facts s) room 0 _ s.objects h)

-- what an accepted job's notes have in common
pub ended_notes : (P : Note → Type 0) (s : Song) (buffer : List ℕ) → Notes P s → (a n : ℕ) (nss : List (List Note)) → under s buffer a ≡ ended nss n → Each (Sound P) nss
unfolding under
ended_notes P s buffer h a n nss e =
    ran (Each (Sound P)) (convert s (length buffer)) (convert_notes P s (length buffer) h).made (seeded (seed s.settings)) a nss n e

-- ---- each note lies on the deck

module _ (columns : ℕ) where
  end_deck : (o : Object) (lasts : Float) (c : ℕ) → c < columns → (EndTimeObject.end_note o lasts c).column < columns
  unfolding EndTimeObject.end_note circle
  end_deck o lasts c l = go (le (double 100 1) lasts)
    where
      go : (b : Bool) → (if b then record { column = c; hold = true; start = o.start; duration = lasts } else circle c o.start).column < columns
      go true = l
      go false = l

  bar_deck : (b : SliderNote) → b.column < columns → (PathObject.note_of b).column < columns
  bar_deck b l = subst (λ (c : ℕ). c < columns) (sym (note_column_law b)) l

  pub kind_deck : (f : Facts) (o : Object) (k : Kind) → Fine (λ n. n.column < columns) f columns o k
  unfolding circle
  kind_deck f o Circle = λ c l. l
  kind_deck f o (Slider repeats distance sound) = (λ c t e l k m h. bar_deck _ l, λ c l h. bar_deck _ l, λ c l h. bar_deck _ l)
  kind_deck f o (Spinner duration) = end_deck o _
  kind_deck f o (Hold duration) = end_deck o _

objects_deck : (s : SongFacts) (columns : ℕ) (os : List Object)
    → Each (λ o. (d : Density) → Fine (λ n. n.column < columns) (Convert.facts_at s d o) columns o o.kind) os
objects_deck s columns [] = tt
objects_deck s columns (o ∷ os) = (λ d. kind_deck columns _ o o.kind, objects_deck s columns os)

sound_parts : (P : Note → Type 0) (nss : List (List Note)) → Each (Sound P) nss → Each Lanes nss × Each (Each P) nss
sound_parts P [] h = (tt, tt)
sound_parts P (ns ∷ nss) h = let k = sound_parts P nss h.1 in ((h.0.0, k.0), (h.0.1, k.1))

-- of every song: each note lies on the deck, and no two notes of one object share a lane
pub deck_and_lanes : (s : Song) (buffer : List ℕ) (a n : ℕ) (nss : List (List Note)) → under s buffer a ≡ ended nss n → Each Lanes nss × Each (Each (OnDeck (columns_of s))) nss
deck_and_lanes s buffer a n nss e = sound_parts _ nss (ended_notes (OnDeck (columns_of s)) s buffer (objects_deck (song_facts s) (columns_of s) s.objects) a n nss e)
