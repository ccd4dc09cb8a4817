-- Objects: kind 2, sound 4, x 32, y 32, start 64, and what the kind adds. Assumes nothing.
use Rattle.std.specs.Prelude.{ℕ, zero, suc, ◌+◌, ◌*◌, Bool, false, ◌||◌, List, [], ◌∷◌, ◌++◌, ltb, Float, Option, Some, None, Result, Ok, Err}
use Rattle.std.specs.Float.{binary64}
use Rattle.std.specs.Float.Ieee.{round, lt}
use Rattle.rules.specs.Numbers as Numbers
use Rattle.model.specs.Limits.{most_repeats, span_range, distance_range, coordinate_range}
use Rattle.bits.specs.Field.{bits}
use Rattle.model.specs.declared.Kind.{Kind}
use Rattle.model.specs.declared.Kind.TheVariants.{Circle, Slider, Spinner, Hold}
use Rattle.model.specs.declared.Object.{Object}
use Rattle.model.specs.Totals.{last_start, sliders_and_spinners}
use Rattle.record.specs.declared.objects.ReadObject.{ReadObject}
use Rattle.record.specs.declared.objects.Scanned.{Scanned}
use Rattle.record.specs.Layout as At
use Rattle.record.specs.Refusal.{Field, field, plain, out32, out64, fields_refusal, f32_at, f64_at, entries_refusal, entries, entries_end}

-- ---- what a kind adds, from bit q on

-- A slider: repeats 10, a bit and, if it is 1, distance 64; a bit and, if it is 1, the first node sound 4. This is the place of the second bit.
unfoldable pub node_bit : List ℕ → ℕ → ℕ
node_bit s q = q + At.distance + 64 * bits s (q + At.is_given) 1

unfoldable pub slider_end : List ℕ → ℕ → ℕ
unfolding node_bit
slider_end s q = node_bit s q + 1 + 4 * bits s (node_bit s q) 1

-- the distance at bit p, by the bit before it
unfoldable pub distance_by : List ℕ → ℕ → ℕ → Option Float
unfolding f64_at
distance_by s p zero = None
distance_by s p (suc b) = Some (f64_at s p)

-- the first node sound at bit p, by the bit before it
unfoldable pub node_by : List ℕ → ℕ → ℕ → Option ℕ
node_by s p zero = None
node_by s p (suc b) = Some (bits s p 4)

unfoldable pub slider_at : List ℕ → ℕ → Kind
unfolding node_bit distance_by node_by
slider_at s q =
    Slider (bits s q At.repeats_width) (distance_by s (q + At.distance) (bits s (q + At.is_given) 1)) (node_by s (node_bit s q + 1) (bits s (node_bit s q) 1))

-- by the kind's number: its value, its end, its fields
unfoldable pub kind_by : List ℕ → ℕ → ℕ → Kind
unfolding slider_at f64_at
kind_by s q zero = Circle
kind_by s q (suc zero) = slider_at s q
kind_by s q (suc (suc zero)) = Spinner (f64_at s q)
kind_by s q (suc (suc (suc k))) = Hold (f64_at s q)

unfoldable pub kind_end : List ℕ → ℕ → ℕ → ℕ
unfolding slider_end
kind_end s q zero = q
kind_end s q (suc zero) = slider_end s q
kind_end s q (suc (suc k)) = q + 64

-- a start or a duration
abbrev pub bad_span : List ℕ → ℕ → Bool
bad_span s p = out64 s p span_range

abbrev pub span_field : List ℕ → ℕ → Field
span_field s p = field p 64 (bad_span s p) Numbers.object

abbrev pub coordinate : List ℕ → ℕ → Field
coordinate s p = field p 32 (out32 s p coordinate_range) Numbers.object

-- what a bit of 1 adds: the distance, the first node sound
abbrev pub distance_fields : List ℕ → ℕ → ℕ → List Field
distance_fields s p zero = []
distance_fields s p (suc b) = field p 64 (out64 s p distance_range) Numbers.object ∷ []

abbrev pub node_fields : ℕ → ℕ → List Field
node_fields p zero = []
node_fields p (suc b) = plain p 4 ∷ []

-- the repeats: their field could hold up to 1,023
abbrev pub repeats_field : List ℕ → ℕ → Field
repeats_field s q = field q At.repeats_width (ltb most_repeats (bits s q At.repeats_width)) Numbers.object

-- repeats, a bit, the distance, a bit, the first node sound
abbrev pub slider_fields : List ℕ → ℕ → List Field
slider_fields s q =
    repeats_field s q
    ∷ plain (q + At.is_given) 1
    ∷ (distance_fields s (q + At.distance) (bits s (q + At.is_given) 1) ++ (plain (node_bit s q) 1 ∷ node_fields (node_bit s q + 1) (bits s (node_bit s q) 1)))

abbrev pub kind_fields : List ℕ → ℕ → ℕ → List Field
kind_fields s q zero = []
kind_fields s q (suc zero) = slider_fields s q
kind_fields s q (suc (suc k)) = span_field s q ∷ []

-- ---- an object at bit p

-- its start
unfoldable pub start_at : List ℕ → ℕ → Float
unfolding f64_at
start_at s p = f64_at s (p + At.start)

unfoldable pub read_object : List ℕ → ℕ → Object
unfolding kind_by f32_at start_at
read_object s p =
    record {
      position = record { x = f32_at s (p + At.x); y = f32_at s (p + At.y) };
      start = start_at s p;
      sound = bits s (p + At.sound) 4;
      kind = kind_by s (p + At.added) (bits s p 2);
    }

unfoldable pub object_end : List ℕ → ℕ → ℕ
unfolding kind_end
object_end s p = kind_end s (p + At.added) (bits s p 2)

-- the object with the place of the next
unfoldable pub read_at : List ℕ → ℕ → ReadObject
unfolding read_object object_end
read_at s p = record { object = read_object s p; next = object_end s p }

-- Kind, sound, x, y, start, and what the kind adds, after an object that starts at `before`: starts never fall.
abbrev pub object_fields : List ℕ → ℕ → Float → List Field
object_fields s p before =
    plain p 2
    ∷ plain (p + At.sound) 4
    ∷ coordinate s (p + At.x)
    ∷ coordinate s (p + At.y)
    ∷ field (p + At.start) 64 (bad_span s (p + At.start) || lt (start_at s p) before) Numbers.object
    ∷ kind_fields s (p + At.added) (bits s p 2)

unfoldable pub object_refusal : List ℕ → ℕ → Float → ℕ
unfolding fields_refusal
object_refusal s p before = fields_refusal s (object_fields s p before)

-- ---- n objects from bit p on

-- the start that stands before the first: none is below it
unfoldable pub zero_start : Float
unfolding round
zero_start = round binary64 false 0 1

unfoldable pub objects_refusal : List ℕ → ℕ → ℕ → ℕ
unfolding object_refusal object_end start_at entries_refusal zero_start
objects_refusal s p n = entries_refusal (object_refusal s) (object_end s) (start_at s) p zero_start n

unfoldable pub objects : List ℕ → ℕ → ℕ → List Object
unfolding read_object object_end entries
objects s p n = entries (read_object s) (object_end s) p n

unfoldable pub objects_end : List ℕ → ℕ → ℕ → ℕ
unfolding object_end entries_end
objects_end s p n = entries_end (object_end s) p n

-- what the check of the objects returns: the number, or where they end, the last start, and how many are sliders and spinners
abbrev pub scan_by : ℕ → ℕ → Float → ℕ → Result Scanned ℕ
scan_by zero end last long = Ok (record { end = end; last = last; long = long })
scan_by (suc n) end last long = Err (suc n)

unfoldable pub scan : List ℕ → ℕ → ℕ → Result Scanned ℕ
unfolding objects_refusal objects_end objects zero_start
scan s p n = scan_by (objects_refusal s p n) (objects_end s p n) (last_start zero_start (objects s p n)) (sliders_and_spinners (objects s p n))
