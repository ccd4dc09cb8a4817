-- Columns that stay on the deck: stairs, and the second column of a row. Assumes nothing.
use Rattle.std.specs.Prelude.{if◌then◌else◌}
use mathlib.Core.Path.{◌≡◌, refl}
use Prim.Native.Nat.{ℕ, ◌+◌, ◌-◌, ◌≤◌, ◌<◌}
use native.Mathlib.Omega.{arith}
use mathlib.Core.Bool.{Bool, true, false, ◌&&◌}
use lib.Dec.{eqb, leb, ltb}
use borrow.Author.Tests.{eqb-true, leb-false, ltb-true, ltb-false, leb-true}
use Rattle.mania.specs.PatternGenerator.{random_start}
use Rattle.mania.specs.PathObject.{legacy, other_column}
use Rattle.slider_notes.specs.Words.{rises}

-- the special column is a legacy one
pub start_legacy : (columns : ℕ) → random_start columns ≤ legacy columns
unfolding random_start legacy
start_legacy columns = go (eqb columns 8) refl
  where
    go : (b : Bool) → eqb columns 8 ≡ b → (if b then 1 else 0) ≤ (if leb 4 columns && leb columns 8 then 1 else 0)
    go true e = let k : columns ≡ 8 = eqb-true _ _ e in rw k (omega arith)
    go false e = omega arith

pub other_lt : (columns interval c : ℕ) → c < columns → interval + legacy columns < columns → other_column columns interval c < columns
unfolding other_column
other_lt columns interval c h k = go (ltb (c + interval) (columns - random_start columns)) refl
  where
    go : (b : Bool) → ltb (c + interval) (columns - random_start columns) ≡ b
        → (if b then c + interval + random_start columns else c + interval + legacy columns - columns) < columns
    go true e = omega (arith, ltb-true (c + interval) (columns - random_start columns) e, start_legacy columns)
    go false e = omega arith

pub start_two : (columns : ℕ) → 2 ≤ columns → random_start columns + 1 < columns
unfolding random_start
start_two columns h = go (eqb columns 8) refl
  where
    go : (b : Bool) → eqb columns 8 ≡ b → (if b then 1 else 0) + 1 < columns
    go true e = let k : columns ≡ 8 = eqb-true _ _ e in omega arith
    go false e = omega arith

-- a stair falls only from a column that is not the first
pub falls : (columns c : ℕ) (up : Bool) → 2 ≤ columns → rises columns c up ≡ false → 1 ≤ c
falls columns c true h e = omega (arith, ltb-false c (columns - 1) e)
falls columns c false h e = omega (arith, leb-false c (random_start columns) e)

pub stair_lt : (columns c : ℕ) (up : Bool) → 2 ≤ columns → c < columns → (if rises columns c up then c + 1 else c - 1) < columns
stair_lt columns c up h k = go up (rises columns c up) refl
  where
    go : (up b : Bool) → rises columns c up ≡ b → (if b then c + 1 else c - 1) < columns
    go true true e = omega (arith, ltb-true c (columns - 1) e)
    go false true e = omega (arith, leb-true c (random_start columns) e, start_two columns h)
    go true false e = omega arith
    go false false e = omega arith
