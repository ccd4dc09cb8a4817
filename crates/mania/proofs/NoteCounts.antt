-- How many notes a draw can mean: a chance of 0 means none of its number. Assumes nothing.
use Rattle.std.specs.Prelude.{if◌then◌else◌}
use mathlib.Core.Path.{◌≡◌, refl, sym, ap, ◌∙◌, subst}
use Prim.Native.Nat.{ℕ, ◌*◌, ◌^◌, ◌≤◌, ◌<◌}
use native.Mathlib.Nat.{le_of_mul-le-mul_right, mul_comm, mul-le-mul_right}
use native.Mathlib.Omega.{arith}
use mathlib.Core.Bool.{Bool, true, false}
use lib.Dec.{T, lit≤}
use lib.Ieee.{Float, binary64, round, sub, le}
use lib.Ieee.Exact.{HasValue}
use lib.Ieee.Back.{round_whole}
use lib.Ieee.Positive.{num, den, den_pos, value→cross}
use Rattle.rules.specs.Refusal.{Refusal}
use Rattle.random.specs.Generator.{unit}
use Rattle.random.specs.Laws.Unit.{unit_exact}
use Rattle.floats.specs.Laws.Values.{sized}
use Rattle.floats.specs.Laws.Ranges.{le_sizes}
use Rattle.mania.specs.Steps.{double}
use Rattle.mania.specs.PatternGenerator.{note_count, get_random_note_count}
use Rattle.mania.proofs.Meets.{Meets, giving, seq, valued}

-- a chance of 0
abbrev pub None : Float → Type 0
None p = sub binary64 (double 1 1) p ≡ double 1 1

pub none_zero : None (double 0 1)
unfolding round sub
none_zero = refl

-- a value is below 1
not_one : (v : ℕ) → v < 2 ^ 31 → le (double 1 1) (unit v) ≡ false
not_one v h = go (le (double 1 1) (unit v)) refl
  where
    value : HasValue (double 1 1) false 1 1
    value = round_whole binary64 false 1 (lit≤ tt)

    cross : (N D n d : ℕ) → 0 < D → 0 < d → N * 1 ≡ 1 * D → n * 2 ^ 31 ≡ v * d → N * d ≤ n * D → 2 ^ 31 ≤ v
    cross N D n d p q a b l =
        let one : N ≡ D = omega arith in
        let small : d ≤ n = le_of_mul-le-mul_right {k = D} (omega (arith, ap (λ (x : ℕ). x * d) one, mul_comm D d)) p in
        le_of_mul-le-mul_right {k = d} (omega (arith, mul-le-mul_right (2 ^ 31) small, mul_comm d (2 ^ 31))) q

    go : (b : Bool) → le (double 1 1) (unit v) ≡ b → b ≡ false
    go false e = refl
    go true e =
        let u = unit_exact v (omega arith) in
        let l = le_sizes (double 1 1) (unit v) (sized (double 1 1) 1 1 value) (sized (unit v) v (2 ^ 31) u) (subst T (sym e) tt) in
        let k : 2 ^ 31 ≤ v = cross (num (double 1 1)) (den (double 1 1)) (num (unit v)) (den (unit v)) (den_pos (double 1 1)) (den_pos (unit v))
        (value→cross (double 1 1) 1 1 value) (value→cross (unit v) v (2 ^ 31) u) l in
        absurd (omega arith)

never_le : (p : Float) (v : ℕ) → None p → v < 2 ^ 31 → le (sub binary64 (double 1 1) p) (unit v) ≡ false
never_le p v n h = ap (λ (x : Float). le x (unit v)) n ∙ not_one v h

abbrev pick : Bool → Bool → Bool → Bool → Bool → ℕ
pick b6 b5 b4 b3 b2 = if b6 then 6 else if b5 then 5 else if b4 then 4 else if b3 then 3 else if b2 then 2 else 1

four : (b4 b3 b2 : Bool) → pick false false b4 b3 b2 ≤ 4
four true b3 b2 = lit≤ tt
four false true b2 = lit≤ tt
four false false true = lit≤ tt
four false false false = lit≤ tt

three : (b3 b2 : Bool) → pick false false false b3 b2 ≤ 3
three true b2 = lit≤ tt
three false true = lit≤ tt
three false false = lit≤ tt

two : (b2 : Bool) → pick false false false false b2 ≤ 2
two true = lit≤ tt
two false = lit≤ tt

some : (b6 b5 b4 b3 b2 : Bool) → 1 ≤ pick b6 b5 b4 b3 b2
some true b5 b4 b3 b2 = lit≤ tt
some false true b4 b3 b2 = lit≤ tt
some false false true b3 b2 = lit≤ tt
some false false false true b2 = lit≤ tt
some false false false false true = lit≤ tt
some false false false false false = lit≤ tt

abbrev at : Float → ℕ → Bool
at p v = le (sub binary64 (double 1 1) p) (unit v)

pub any_count : {Q : Refusal → Type 0} (p2 p3 p4 p5 p6 : Float) → Meets Q (λ n. Unit {0}) (get_random_note_count p2 p3 p4 p5 p6)
unfolding get_random_note_count
any_count p2 p3 p4 p5 p6 = seq valued (λ v h. giving tt)

pub at_least_1 : {Q : Refusal → Type 0} (p2 p3 p4 p5 p6 : Float) → Meets Q (λ n. 1 ≤ n) (get_random_note_count p2 p3 p4 p5 p6)
unfolding get_random_note_count note_count
at_least_1 p2 p3 p4 p5 p6 = seq valued (λ v h. giving (some (at p6 v) (at p5 v) (at p4 v) (at p3 v) (at p2 v)))

module _ {Q : Refusal → Type 0} (p2 p3 p4 p5 p6 : Float) (n5 : None p5) (n6 : None p6) where
  pub at_most_4 : Meets Q (λ n. n ≤ 4) (get_random_note_count p2 p3 p4 p5 p6)
  unfolding get_random_note_count note_count
  at_most_4 = seq valued (λ v h. giving (rw (never_le p6 v n6 h, never_le p5 v n5 h) (four (at p4 v) (at p3 v) (at p2 v))))

  module _ (n4 : None p4) where
    pub at_most_3 : Meets Q (λ n. n ≤ 3) (get_random_note_count p2 p3 p4 p5 p6)
    unfolding get_random_note_count note_count
    at_most_3 = seq valued (λ v h. giving (rw (never_le p6 v n6 h, never_le p5 v n5 h, never_le p4 v n4 h) (three (at p3 v) (at p2 v))))

    module _ (n3 : None p3) where
      pub at_most_2 : Meets Q (λ n. n ≤ 2) (get_random_note_count p2 p3 p4 p5 p6)
      unfolding get_random_note_count note_count
      at_most_2 = seq valued (λ v h. giving (rw (never_le p6 v n6 h, never_le p5 v n5 h, never_le p4 v n4 h, never_le p3 v n3 h) (two (at p2 v))))

      pub at_most_1 : None p2 → Meets Q (λ n. n ≤ 1) (get_random_note_count p2 p3 p4 p5 p6)
      unfolding get_random_note_count note_count
      at_most_1 n2 =
          seq valued (λ v h. giving (rw (never_le p6 v n6 h, never_le p5 v n5 h, never_le p4 v n4 h, never_le p3 v n3 h, never_le p2 v n2 h) (lit≤ tt)))
