-- Document 01: a previous pattern lists each column once. So its mask tells how many notes it has, and a mask with one bit (`alone` of HitObject) stands
-- for the Rust's `prev_pattern.hit_objects.len() == 1`. Assumes nothing.
use Rattle.std.specs.Prelude.{◌≡◌, ℕ, ◌+◌, ◌≤◌, eqb, Float, length, if◌then◌else◌, Option}
use Rattle.std.specs.Int.Count.{ones}
use Rattle.rules.specs.Rule.{ended, run}
use Rattle.random.specs.Generator.{values}
use Rattle.random.specs.declared.Random.{Random}
use Rattle.model.specs.declared.Object.{Object}
use Rattle.mania.specs.declared.Facts.{Facts}
use Rattle.mania.specs.declared.PrevValues.{PrevValues}
use Rattle.mania.specs.declared.SliderNote.{SliderNote}
use Rattle.mania.specs.declared.PathObjectPatternGenerator.{PathObjectPatternGenerator}
use Rattle.mania.specs.Made.{Made}
use Rattle.mania.specs.Pattern.{Pattern, empty}
use Rattle.mania.specs.HitObject as HitObject
use Rattle.mania.specs.PathObject as PathObject
use Rattle.mania.specs.EndTimeObject as EndTimeObject

-- a slider's last pattern, which the next object meets: that of its single note, else of the notes that end at its end
unfoldable pub last_pattern : PathObjectPatternGenerator → Pattern SliderNote → Pattern SliderNote
last_pattern g p = if eqb (length p.notes) 1 then p else PathObject.ending g.end p.notes empty

-- An object leaves a pattern to the next one by its mask and last column; the pattern has as many notes as the mask has ones.
pub record Leaves {A : Type 0} (m : Made) (p : Pattern A) : Type 0 where
  pub mask : m.mask ≡ p.mask
  pub last : m.last ≡ p.last
  pub once : length p.notes ≡ ones p.mask

-- Of every object, whatever is drawn.
pub record ListsOnce : Type 0 where
  -- A circle leaves the pattern that it makes,
  pub circle : (f : Facts) (v : PrevValues) (columns : ℕ) (o : Object) → 1 ≤ columns
      → (a n : ℕ) (r : Random) (made : Made) → run (HitObject.generate (HitObject.new f v columns o)) (values a r) ≡ ended made n
      → Leaves made (record { mask = made.mask; last = made.last; notes = made.notes })
  -- a slider its last pattern; one that ends too late makes none,
  pub slider : (f : Facts) (v : PrevValues) (columns : ℕ) (o : Object) (repeats : ℕ) (distance : Option Float) (node : Option ℕ) → 1 ≤ columns
      → PathObject.end_time f o (repeats + 1) distance ≤ PathObject.latest
      → let g = PathObject.new f v columns o repeats distance node in
      (a n : ℕ) (r : Random) (p : Pattern SliderNote) → run (PathObject.generate_core g) (values a r) ≡ ended p n → Leaves (PathObject.split g p) (last_pattern g p)
  -- and a spinner or a hold the one before it.
  pub spinner : (v : PrevValues) (columns : ℕ) (o : Object) (duration : Float)
      → (a n : ℕ) (r : Random) (made : Made) → run (EndTimeObject.generate v columns o duration) (values a r) ≡ ended made n
      → (made.mask ≡ v.mask) × (made.last ≡ v.last)
