-- The stair after a note more. Assumes nothing.
use mathlib.Core.Path.{◌≡◌, refl}
use Prim.Native.Nat.{ℕ}
use mathlib.Core.List.{List, [], ◌∷◌, ◌++◌, map}
use Rattle.mania.specs.declared.HitObjectPatternGenerator.{HitObjectPatternGenerator}
use Rattle.mania.specs.declared.Stair.{Stair}
use Rattle.mania.specs.Made.{circle}
use Rattle.mania.specs.HitObject.{turned, stair_after}
use Rattle.pattern.specs.Answers.{column_of}
use Rattle.circle_notes.specs.Answers.{circle_at}

pub after_more : (g : HitObjectPatternGenerator) (words : List ℕ) (w : ℕ) (s : Stair)
    → stair_after g s (map (circle_at g.start) (words ++ w ∷ [])) ≡ turned g (column_of w) (stair_after g s (map (circle_at g.start) words))
unfolding stair_after circle_at circle
after_more g [] w s = refl
after_more g (x ∷ xs) w s = after_more g xs w (turned g (column_of x) s)
