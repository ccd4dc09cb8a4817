-- One object as a host in C lends it and gets it back: the values of its numbers, and the numbers of its answer. Assumes nothing.
use Rattle.std.specs.Prelude.{◌≡◌, Bool, not, cond, List, ℕ, zero, suc, min, eqb, Float, Option, Some, None}
use Rattle.random.specs.declared.Random.{Random}
use Rattle.model.specs.declared.Kind.{Kind}
use Rattle.model.specs.declared.Kind.TheVariants.{Circle, Slider, Spinner, Hold}
use Rattle.model.specs.declared.Object.{Object}
use Rattle.mania.specs.declared.Facts.{Facts}
use Rattle.mania.specs.declared.PrevValues.{PrevValues}
use Rattle.mania.specs.declared.Stair.{Stair}
use Rattle.mania.specs.declared.Stair.TheVariants.{Up, Reverse}
use Rattle.mania.specs.Single.{Single, Answer, made, refusal}
use Rattle.object_numbers.specs.declared.Told.{Told}

-- ---- the host's numbers

-- the largest numbers of a field of 8 and of 16 bits
abbrev pub largest8 : ℕ
largest8 = 255

abbrev pub largest16 : ℕ
largest16 = 65535

-- a number in such a field: one that the field cannot hold becomes its largest
abbrev pub saturate8 : ℕ → ℕ
saturate8 n = min n largest8

abbrev pub saturate16 : ℕ → ℕ
saturate16 n = min n largest16

-- a flag is set where it is not 0

abbrev pub is_set : ℕ → Bool
is_set n = not (eqb n 0)

abbrev pub distance_of : ℕ → Float → Option Float
distance_of given d = cond (is_set given) (Some d) None

abbrev pub node_of : ℕ → ℕ → Option ℕ
node_of given s = cond (is_set given) (Some s) None

-- 0 a circle, 1 a slider, 2 a spinner, 3 a hold; any other number is a slider of more repeats than a record can hold, which is refused by 6
unfoldable pub kind_of : ℕ → ℕ → Option Float → Option ℕ → Float → Kind
kind_of zero repeats distance sound duration = Circle
kind_of (suc zero) repeats distance sound duration = Slider repeats distance sound
kind_of (suc (suc zero)) repeats distance sound duration = Spinner duration
kind_of (suc (suc (suc zero))) repeats distance sound duration = Hold duration
kind_of (suc (suc (suc (suc k)))) repeats distance sound duration = Slider largest16 None None

abbrev pub object_of : Float → Float → Float → ℕ → Kind → Object
object_of x y start sound kind = record { position = record { x = x; y = y }; start = start; sound = sound; kind = kind }

abbrev pub facts_of : Float → Float → Float → Float → ℕ → Float → Facts
facts_of difficulty multiplier beat velocity kiai density =
    record { difficulty = difficulty; multiplier = multiplier; beat = beat; velocity = velocity; kiai = is_set kiai; density = density }

abbrev pub stair_of : ℕ → Stair
stair_of reverse = cond (is_set reverse) Reverse Up

abbrev pub previous_of : Float → Float → Float → ℕ → ℕ → ℕ → PrevValues
previous_of time x y mask last reverse =
    record { time = time; position = record { x = x; y = y }; mask = mask; last = last; stair = stair_of reverse }

abbrev pub state_of : ℕ → ℕ → ℕ → ℕ → Random
state_of x y z w = record { x = x; y = y; z = z; w = w }

-- ---- what comes back

abbrev pub stair_number : Stair → ℕ
stair_number Up = 0
stair_number Reverse = 1

-- after a refusal its number, the state as it is then, and zeros
abbrev pub told : Answer → Told
told (made n mask last stair random draws) =
    record { number = 0; count = n; mask = mask; last = last; stair = stair_number stair; state = random; draws = draws }
told (refusal n random) = record { number = n; count = 0; mask = 0; last = 0; stair = 0; state = random; draws = 0 }

abbrev pub tells : ℕ → ℕ → ℕ → ℕ → ℕ → Random → ℕ → Told
tells number count mask last stair state draws =
    record { number = number; count = count; mask = mask; last = last; stair = stair; state = state; draws = draws }

-- the numbers are those of the entry's answer, and the buffer is as the entry leaves it
abbrev pub Gives : Single → Told → List ℕ → Type 0
Gives s t notes = (t ≡ told s.answer) × (notes ≡ s.notes)
