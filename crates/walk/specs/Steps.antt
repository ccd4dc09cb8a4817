-- What the walk's functions ask and promise. Assumes nothing.
use Rattle.std.specs.Prelude.{◌≡◌, ℕ, ◌+◌, ◌*◌, ◌^◌, ◌≤◌, ◌<◌, Bool, true, false, List, map, Result, Ok, Err, ltb, Float, length, take}
use Rattle.rules.specs.Numbers as Numbers
use Rattle.rules.specs.Coded.{code}
use Rattle.model.specs.Limits.{most_notes, most_entries}
use Rattle.random.specs.Play.{Answer, found, refused, on}
use Rattle.random.specs.declared.Draws.{Draws}
use Rattle.model.specs.declared.Object.{Object}
use Rattle.model.specs.ControlPoint.{beat_at, velocity_at, kiai_at}
use Rattle.record.specs.Layout as At
use Rattle.record.specs.Section.{timing_points, difficulty_points, effect_points}
use Rattle.record.specs.Object.{objects}
use Rattle.record.specs.Lookup.{Rising}
use Rattle.record.specs.declared.section.Section.TheVariants.{TimingPoints, DifficultyPoints, EffectPoints}
use Rattle.points.specs.Lasting.{BeatLasts, VelocityLasts, KiaiLasts}
use Rattle.chart.specs.Layout.{chart_size}
use Rattle.chart.specs.Bytes.{splice}
use Rattle.chart.specs.declared.Version.TheVariants.{Two}
use Rattle.chart.specs.Chart as Bytes
use Rattle.mania.specs.declared.Facts.{Facts}
use Rattle.mania.specs.declared.Note.{Note}
use Rattle.mania.specs.Chart.{body, patterns_from, in_walk_order}
use Rattle.mania.specs.LimitedQueue as Queue
use Rattle.mania.specs.Made.{Made}
use Rattle.mania.specs.Object.{object}
use Rattle.mania.specs.Convert.{SongFacts, walk_after, after_object, beginning, walk}
use Rattle.mania.specs.Convert as Convert
use Rattle.mania.specs.Walked.{Stop, stop, on_walk}
use Rattle.density.specs.Queued.{queued}
use Rattle.density.specs.declared.times.Density.{Density}
use Rattle.random.specs.declared.Refused.{Refused}
use Rattle.pattern.specs.declared.Made as Lent
use Rattle.object.specs.Notes.{note_at}
use Rattle.walk.specs.declared.Song.{Song}
use Rattle.walk.specs.declared.InForce.{InForce}
use Rattle.walk.specs.declared.Met.{Met}
use Rattle.walk.specs.declared.Walk.{Walk}
use Rattle.walk.specs.declared.Stopped.{Stopped}
use Rattle.walk.specs.Kept.{walk_of}

-- the song's facts: its numbers, and its points, read from the part that starts with the first timing point
abbrev pub given_facts : (points : List ℕ) → Song → SongFacts
given_facts points g =
    record {
      difficulty = g.difficulty;
      multiplier = g.multiplier;
      timing_points = timing_points points 0 g.points.timing;
      difficulty_points = difficulty_points points (At.difficulty_points g.points.timing) g.points.difficulty;
      effect_points = effect_points points (At.effect_points g.points.timing g.points.difficulty) g.points.effect;
    }

-- What the walk asks: a column count of document 01, and lists of points that a record can have, in order. It asks nothing of the difficulty.
pub record Given (points : List ℕ) (g : Song) : Type 0 where
  pub low : 1 ≤ g.columns
  pub high : g.columns ≤ 9
  pub timing_le : g.points.timing ≤ most_entries
  pub difficulty_le : g.points.difficulty ≤ most_entries
  pub effect_le : g.points.effect ≤ most_entries
  pub timing_rises : Rising TimingPoints points 0 g.points.timing
  pub difficulty_rises : Rising DifficultyPoints points (At.difficulty_points g.points.timing) g.points.difficulty
  pub effect_rises : Rising EffectPoints points (At.effect_points g.points.timing g.points.difficulty) g.points.effect

-- the values are those of the song's points between their times
pub record InForceOf (points : List ℕ) (g : Song) (c : InForce) : Type 0 where
  pub beat : BeatLasts points 0 g.points.timing c.beat
  pub velocity : VelocityLasts points (At.difficulty_points g.points.timing) g.points.difficulty c.velocity
  pub kiai : KiaiLasts points (At.effect_points g.points.timing g.points.difficulty) g.points.effect c.kiai

-- and at the time t
pub record InForceAt (points : List ℕ) (g : Song) (t : Float) (c : InForce) : Type 0 where
  pub beat : c.beat.value ≡ beat_at (given_facts points g).timing_points t
  pub velocity : c.velocity.value ≡ velocity_at (given_facts points g).difficulty_points t
  pub kiai : c.kiai.value ≡ kiai_at (given_facts points g).effect_points t

-- the facts in force at an object that meets a density
abbrev pub facts_by : Song → InForce → Queue.Density → Facts
facts_by g c q =
    record {
      difficulty = g.difficulty;
      multiplier = g.multiplier;
      beat = c.beat.value;
      velocity = c.velocity.value;
      kiai = c.kiai.value;
      density = q.value;
    }

-- the density and the facts that the object meets
pub record Meets (g : Song) (c : InForce) (before : Density) (o : Object) (m : Met) : Type 0 where
  pub density : queued m.density ≡ Convert.meets o.kind o.start (queued before)
  pub facts : m.facts ≡ facts_by g c (queued m.density)

-- a chart of the notes so far and so many more is longer than the buffer
abbrev pub too_long : List ℕ → Walk → ℕ → Bool
too_long entry w n = ltb (length entry) (chart_size (w.notes + n))

-- the notes of the object at index i are written after those before, and the walk goes on, unless the chart is too short for them: 11
abbrev pub Keeps : (entry exit words : List ℕ) → ℕ → Object → Met → Lent.Made → Walk → Draws → Result (Walk × Draws) Refused → Type 0
Keeps entry exit words i o m made w d (Ok (x, e)) =
    (too_long entry w made.pattern.count ≡ false) × (exit ≡ splice entry (chart_size w.notes) (body i (map (note_at o) (take made.pattern.count words))))
    × (walk_of x ≡ walk_after m.facts o (queued m.density) made.pattern.mask made.pattern.last made.stair made.pattern.count (walk_of w)) × (e ≡ d)
Keeps entry exit words i o m made w d (Err r) =
    (too_long entry w made.pattern.count ≡ true) × (code r.refusal ≡ Numbers.chart_too_short) × (r.draws ≡ d)

-- what the walk keeps is for the columns: a previous pattern on the deck
pub record Sound (columns : ℕ) (w : Walk) : Type 0 where
  pub mask : w.prev.mask < 2 ^ columns
  pub last : w.prev.last < columns

-- what an object finds: the density, the facts
abbrev pub density_at : Walk → Object → Queue.Density
density_at w o = Convert.meets o.kind o.start (queued w.density)

abbrev pub facts_in : Song → InForce → Walk → Object → Facts
facts_in g c w o = facts_by g c (density_at w o)

-- the rule of an object
abbrev pub object_rule : Song → InForce → Walk → Object → Draws → Answer ℕ Made
object_rule g c w o d = on (object (facts_in g c w o) w.prev g.columns o) d

-- the object made its notes, and they are written
pub record Next (entry exit : List ℕ) (i : ℕ) (g : Song) (c : InForce) (w : Walk) (o : Object) (d : Draws) (x : Walk) (e : Draws) : Type 0 where
  pub made : Made
  pub says : object_rule g c w o d ≡ found made e
  pub room : too_long entry w (length made.notes) ≡ false
  pub written : exit ≡ splice entry (chart_size w.notes) (body i made.notes)
  pub after : walk_of x ≡ after_object (facts_in g c w o) o (density_at w o) made (walk_of w)
  pub few : length made.notes ≤ most_notes
  pub sound : Sound g.columns x

-- its rule is refused, or its notes are too long for the buffer
pub data Stops (entry : List ℕ) (g : Song) (c : InForce) (w : Walk) (o : Object) (d : Draws) (n : ℕ) (e : Draws) : Type 0 where
  refuses : object_rule g c w o d ≡ refused n e → Stops entry g c w o d n e
  full : (made : Made) → object_rule g c w o d ≡ found made e → too_long entry w (length made.notes) ≡ true → n ≡ Numbers.chart_too_short → Stops entry g c w o d n e

-- one object of the walk
abbrev pub Steps : (entry exit : List ℕ) → ℕ → Song → InForce → Walk → Object → Draws → Result (Walk × Draws) Refused → Type 0
Steps entry exit i g c w o d (Ok (x, e)) = Next entry exit i g c w o d x e
Steps entry exit i g c w o d (Err r) = Stops entry g c w o d (code r.refusal) r.draws

-- the rule of a walk over the objects of the part
abbrev pub rule : (points part : List ℕ) → Song → ℕ → ℕ → ℕ → Draws → Answer Stop (List (List Note))
rule points part g room at count d = on_walk (walk (given_facts points g) g.columns room 0 beginning (objects part at count)) d

-- all notes of a walk stand in walk order from byte 8 on, each with the index of its object; `walked` is what its rule comes to
pub record Written (walked : Answer Stop (List (List Note))) (entry exit : List ℕ) (notes : ℕ) (e : Draws) : Type 0 where
  pub nss : List (List Note)
  pub says : walked ≡ found nss e
  pub written : exit ≡ splice entry 8 (Bytes.body Two (patterns_from 0 nss))
  pub number : notes ≡ length (in_walk_order nss)
  pub few : notes ≤ most_notes * most_entries
  pub room : chart_size notes ≤ length entry

abbrev pub Ends : Answer Stop (List (List Note)) → (entry exit : List ℕ) → Result (ℕ × Draws) Stopped → Type 0
Ends walked entry exit (Ok (notes, e)) = Written walked entry exit notes e
Ends walked entry exit (Err s) = walked ≡ refused (stop s.index (code s.refused.refusal)) s.refused.draws
