-- The columns and the previous values that the single-object entry's checks leave. Assumes nothing.
use Rattle.std.specs.Prelude.{◌≡◌, Bool, true, false, not, ◌&&◌, eqb, leb, ltb, if◌then◌else◌}
use Rattle.std.proofs.Common.{arith, eqb-true, ltb-true, leb-true}
use Prim.Native.Nat.{ℕ, ◌^◌, ◌≤◌, ◌<◌}
use Rattle.mania.specs.declared.PrevValues.{PrevValues}
use Rattle.mania.specs.Pattern.{free}
use Rattle.mania.specs.Laws.Tests.{and_l, four}
use Rattle.mania.specs.Single.{pattern_fits}

-- where 13 does not apply, the columns are 1 to 9, and mask and last column lie on them
pub record Fits (v : PrevValues) (columns : ℕ) : Type 0 where
  pub some : 1 ≤ columns
  pub deck : columns ≤ 9
  pub mask : v.mask < 2 ^ columns
  pub last : v.last < columns

last_fits : (b : Bool) (last columns : ℕ) (t : Bool) → 1 ≤ columns → (if b then eqb last 0 else ltb last columns && t) ≡ true → last < columns
last_fits true last columns t h e = let z = eqb-true last 0 e in omega arith
last_fits false last columns t h e = ltb-true last columns (and_l (ltb last columns) t e)

pub pattern_fits_law : (v : PrevValues) (columns : ℕ) → pattern_fits v columns ≡ true → Fits v columns
unfolding pattern_fits
pattern_fits_law v columns e =
    let here = not (free v.mask v.last) in
    let t = four (leb 1 columns) (leb columns 9) (ltb v.mask (2 ^ columns)) (if eqb v.mask 0 then eqb v.last 0 else ltb v.last columns && here) e in
    let low = leb-true 1 columns t.0 in
    record {
      some = low;
      deck = leb-true columns 9 t.1;
      mask = ltb-true v.mask (2 ^ columns) t.2;
      last = last_fits (eqb v.mask 0) v.last columns here low t.3;
    }
