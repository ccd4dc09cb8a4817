-- The single-object entry: its checks, and what it gives. Assumes nothing.
use Rattle.std.specs.Prelude.{ℕ, ◌*◌, ◌^◌, Bool, true, not, ◌&&◌, List, eqb, leb, ltb, Float, length, if◌then◌else◌, Option, Some, None}
use Rattle.std.specs.Float.Ieee.{le}
use Rattle.std.specs.Float.Ieee.Scale.{finite}
use Rattle.model.specs.Limits.{Range, most_repeats, multiplier_range, beat_range, velocity_range, span_range, coordinate_range, distance_range, most_difficulty}
use Rattle.rules.specs.Numbers as Numbers
use Rattle.rules.specs.Rule.{Outcome, ended, refused, spent, give, refuse, run, ◌>>=◌}
use Rattle.rules.specs.Refusal.{Refusal, too_short, number, spent_number, ObjectRule}
use Rattle.floats.specs.Range.{in_range}
use Rattle.random.specs.Generator.{values, steps}
use Rattle.random.specs.declared.Random.{Random}
use Rattle.mania.specs.declared.Facts.{Facts}
use Rattle.model.specs.declared.Position.{Position}
use Rattle.mania.specs.declared.PrevValues.{PrevValues}
use Rattle.model.specs.declared.Object.{Object}
use Rattle.model.specs.declared.Kind.{Kind}
use Rattle.model.specs.declared.Kind.TheVariants.{Circle, Slider, Spinner, Hold}
use Rattle.mania.specs.declared.Stair.{Stair}
use Rattle.mania.specs.Pattern.{free}
use Rattle.mania.specs.Made.{Made}
use Rattle.mania.specs.Object.{object}
use Rattle.mania.specs.Chart.{body, written}
use Rattle.chart.specs.Layout.{note_size}

-- ---- the checks, in their order

-- in the range of its field
abbrev pub inside : Range → Float → Bool
inside range x = in_range range.low range.high x

-- columns 1 to 9, no mask bit beyond them, and a last column of the mask, or 0 with an empty one
unfoldable pub pattern_fits : PrevValues → ℕ → Bool
pattern_fits v columns =
    leb 1 columns && leb columns 9 && ltb v.mask (2 ^ columns)
    && (if eqb v.mask 0 then eqb v.last 0 else ltb v.last columns && not (free v.mask v.last))

-- a difficulty: finite and at most 12, negative ones and −0.0 included
unfoldable pub allowed_difficulty : Float → Bool
allowed_difficulty x = finite x && le x most_difficulty

unfoldable pub settings_fit : Facts → Bool
settings_fit f = inside multiplier_range f.multiplier && allowed_difficulty f.difficulty

-- beat length and velocity
unfoldable pub points_fit : Facts → Bool
points_fit f = inside beat_range f.beat && inside velocity_range f.velocity

unfoldable pub position_fits : Position → Bool
position_fits p = inside coordinate_range p.x && inside coordinate_range p.y

unfoldable pub distance_fits : Option Float → Bool
distance_fits None = true
distance_fits (Some d) = inside distance_range d

-- four bits
unfoldable pub node_fits : Option ℕ → Bool
node_fits None = true
node_fits (Some s) = ltb s 16

-- what the kind carries
unfoldable pub kind_fits : Kind → Bool
kind_fits Circle = true
kind_fits (Slider repeats distance sound) = leb repeats most_repeats && distance_fits distance && node_fits sound
kind_fits (Spinner duration) = inside span_range duration
kind_fits (Hold duration) = inside span_range duration

-- the object, and the previous position, time and density
unfoldable pub object_fits : Facts → PrevValues → Object → Bool
object_fits f v o =
    position_fits o.position && inside span_range o.start && ltb o.sound 16 && kind_fits o.kind
    && position_fits v.position && finite v.time && finite f.density

-- ---- the rule

-- the object's rule, and then a refusal where its notes are longer than the buffer
unfoldable pub with_room : Facts → PrevValues → ℕ → Object → ℕ → ObjectRule Made
with_room f v columns o room = do
  made ← object f v columns o
  if ltb room (note_size * length made.notes) then refuse too_short else give made

-- the number of the first check that fails, 0 where none does
unfoldable pub entry_refusal : Facts → PrevValues → ℕ → Object → ℕ
entry_refusal f v columns o =
    if not (pattern_fits v columns) then Numbers.columns_or_previous
    else if not (settings_fit f) then Numbers.setting
    else if not (points_fit f) then Numbers.break_or_point
    else if not (object_fits f v o) then Numbers.object
    else 0

-- ---- what the entry gives

-- the notes' number, the new mask, last column and stair, the state and the draws; or a refusal's number and the state that was lent
pub data Answer : Type 0 where
  made : ℕ → ℕ → ℕ → Stair → Random → ℕ → Answer
  refusal : ℕ → Random → Answer

-- the answer, and the buffer as the entry leaves it
pub record Single : Type 0 where
  pub answer : Answer
  pub notes : List ℕ

-- a refusal writes nothing
unfoldable pub refusing : ℕ → Random → List ℕ → Single
refusing k r buffer = record { answer = refusal k r; notes = buffer }

-- notes are written from the buffer's start, as those of object 0
unfoldable pub ending : Random → List ℕ → Outcome (Unit {0}) Refusal Made → Single
ending r buffer (ended m n) =
    record { answer = made (length m.notes) m.mask m.last m.stair (steps n r) n; notes = written (body 0 m.notes) buffer }
ending r buffer (refused k n) = refusing (number k) r buffer
ending r buffer (spent p n) = refusing spent_number r buffer

-- the single-object entry, from a state under an allowance: the checks in their order, and then the rule
unfoldable pub single_object : Facts → PrevValues → ℕ → Object → Random → ℕ → List ℕ → Single
single_object f v columns o r allowance buffer =
    if eqb (entry_refusal f v columns o) 0 then ending r buffer (run (with_room f v columns o (length buffer)) (values allowance r))
    else refusing (entry_refusal f v columns o) r buffer
