-- The one note of a spinner or a hold, as a word. Assumes nothing.
use mathlib.Core.Path.{◌≡◌}
use Prim.Native.Nat.{ℕ, ◌%◌, ◌^◌, ◌<◌}
use native.Mathlib.Nat.{not-suc-le-zero}
use native.Mathlib.Omega.{arith}
use mathlib.Core.List.{List, [], ◌∷◌, map}
use lib.Ieee.{Float}
use lib.ListN.{length, take, set}
use Rattle.model.specs.declared.Object.{Object}
use Rattle.mania.specs.EndTimeObject.{lasting, end_note}
use Rattle.end_time_object.specs.Answers.{end_note_at}

pub one_note : (o : Object) (duration : Float) (words : List ℕ) (c : ℕ) → c < 9 → 0 < length words
    → map (end_note_at o duration) (take 1 (set words 0 c)) ≡ end_note o (lasting o duration) c ∷ []
unfolding end_note_at
one_note o duration [] c h l = absurd (not-suc-le-zero l)
one_note o duration (w ∷ ws) c h l = let own : c % 2 ^ 4 ≡ c = omega arith in rw own
