-- `circle_notes::image` meets its contract. Assumes nothing.
use mathlib.Core.Path.{◌≡◌, refl}
use mathlib.Core.Bool.{Bool, true, false}
use Prim.Native.Nat.{ℕ, ◌+◌, ◌≤◌}
use native.Mathlib.Omega.{arith}
use Rattle.std.specs.Prelude.{eqb, if◌then◌else◌}
use Rattle.std.proofs.Common.{eqb-true}
use Rattle.mania.specs.PatternGenerator.{random_start}
use Rattle.mania.specs.HitObject.{image}
use Rattle.circle_notes.proofs.image.Goals as goal

-- the first column is 0 but for 8 columns, so that the sum is a byte whatever the columns
start_fits : (columns : ℕ) → columns ≤ 255 → random_start columns + columns ≤ 255
unfolding random_start
start_fits columns h = go (eqb columns 8) refl
  where
    go : (b : Bool) → eqb columns 8 ≡ b → (if b then 1 else 0) + columns ≤ 255
    go true e = let z = eqb-true columns 8 e in omega arith
    go false e = omega arith

pub overflow_add-result : goal.overflow_add-result
overflow_add-result c = omega (arith, c.random_start.ensures, start_fits c.args.columns (omega arith))

pub returns : goal.returns
unfolding image
returns c = rw (← c.random_start.ensures)
