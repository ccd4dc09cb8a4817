-- The order of floats: nothing is at most a NaN, and what is below a number that is at most z is at most z.
-- Assumes nothing.
use Rattle.std.specs.Prelude.{◌≡◌, ℕ, zero, suc, ◌+◌, ◌*◌, ◌<◌, ◌≤◌, Bool, true, false, ◌&&◌, ◌||◌, ℤ, pos, negsuc, ◌==◌, nat_lt, refl, Float}
use Rattle.std.proofs.Common.{sym, ◌∙◌, mul-le-mul_right, le_of_mul-le-mul_right, le_of_lt, arith, lit<, pow_pos, ltb-true, ltb-false, lt-ltb, eqb-true, eq-eqb}
use Rattle.std.specs.Float.{nan, inf, fin}
use Rattle.std.specs.Float.Ieee.{up, down, below, level, lt, le, eq}

-- nothing is at most a NaN
pub le_nan : (x : Float) → le x nan ≡ false
unfolding le lt eq
le_nan nan = refl
le_nan (inf s) = refl
le_nan (fin s m d) = refl

-- at most, as `le` tests it of two numbers of one sign
abbrev at_most : ℕ → ℕ → Bool
at_most p q = nat_lt p q || (p == q && true)

in_le : (p q : ℕ) (t : Bool) → nat_lt p q ≡ t → p ≤ q → at_most p q ≡ true
in_le p q true e h = rw e
in_le p q false e h = rw (e, eq-eqb p q (omega (arith, ltb-false p q e)))

out_eq : (p q : ℕ) (t : Bool) → (p == q) ≡ t → (t && true) ≡ true → p ≡ q
out_eq p q true e h = eqb-true p q e
out_eq p q false e h = cc

out_le : (p q : ℕ) (t : Bool) → nat_lt p q ≡ t → at_most p q ≡ true → p ≤ q
out_le p q true e h = le_of_lt (ltb-true p q e)
out_le p q false e h = omega (arith, out_eq p q (p == q) refl (rw e at h))

-- the larger of two numbers of one sign, written the other way round
in_ge : (p q : ℕ) (t : Bool) → nat_lt q p ≡ t → q ≤ p → (nat_lt q p || (p == q && true)) ≡ true
in_ge p q true e h = rw e
in_ge p q false e h = rw (e, eq-eqb p q (omega (arith, ltb-false q p e)))

out_ge : (p q : ℕ) (t : Bool) → nat_lt q p ≡ t → (nat_lt q p || (p == q && true)) ≡ true → q ≤ p
out_ge p q true e h = le_of_lt (ltb-true q p e)
out_ge p q false e h = omega (arith, out_eq p q (p == q) refl (rw e at h))

-- a number of the negative sign is at most one of the positive
minus_plus : (p q : ℕ) → (nat_lt 0 (p + q) || (p == q && (false || p == 0))) ≡ true
minus_plus zero zero = refl
minus_plus zero (suc q) = rw (lt-ltb 0 (0 + suc q) (omega arith))
minus_plus (suc p) q = rw (lt-ltb 0 (suc p + q) (omega arith))

-- of the positive sign one is at most one of the negative only where both are 0
both_zero : (p q : ℕ) (t u : Bool) → (p == q) ≡ t → (p == 0) ≡ u → (t && (false || u)) ≡ true → (p ≡ q) × (p ≡ 0)
both_zero p q true true e f h = (eqb-true p q e, eqb-true p 0 f)
both_zero p q true false e f h = (cc, cc)
both_zero p q false u e f h = (cc, cc)

zero_of : (n c : ℕ) → 0 < c → n * c ≡ 0 → n ≡ 0
zero_of zero c h e = refl
zero_of (suc n) c h e = omega arith

-- A / a below B / b at most C / c, as products
chain : (A a B b C c : ℕ) → 0 < b → A * b ≤ B * a → B * c ≤ C * b → A * c ≤ C * a
chain A a B b C c h k l =
    let m : A * c * b ≤ C * a * b = omega (arith, mul-le-mul_right c k, mul-le-mul_right a l) in
    le_of_mul-le-mul_right m h

core : (s t u : Bool) (A a B b C c : ℕ) → 0 < b → 0 < c → below s (A * b) t (B * a) ≡ true
    → (below t (B * c) u (C * b) || level t (B * c) u (C * b)) ≡ true → (below s (A * c) u (C * a) || level s (A * c) u (C * a)) ≡ true
core false false false A a B b C c hb hc h k =
    in_le (A * c) (C * a) _ refl (chain A a B b C c hb (le_of_lt (ltb-true (A * b) (B * a) h)) (out_le (B * c) (C * b) _ refl k))
core false false true A a B b C c hb hc h k =
    let z = zero_of B c hc (both_zero (B * c) (C * b) _ _ refl refl k).1 in
    let l : A * b < 0 * a = rw z at (ltb-true (A * b) (B * a) h) in
    absurd (omega arith)
core false true u A a B b C c hb hc h k = cc
core true false false A a B b C c hb hc h k = minus_plus (A * c) (C * a)
core true false true A a B b C c hb hc h k =
    let bz = both_zero (B * c) (C * b) _ _ refl refl k in
    let z = zero_of B c hc bz.1 in
    let y = zero_of C b hb (sym bz.0 ∙ bz.1) in
    rw y (in_ge (A * c) (0 * a) _ refl (omega arith))
core true true false A a B b C c hb hc h k = minus_plus (A * c) (C * a)
core true true true A a B b C c hb hc h k =
    in_ge (A * c) (C * a) _ refl (chain C c B b A a hb (out_ge (B * c) (C * b) _ refl k) (le_of_lt (ltb-true (B * a) (A * b) h)))

down_pos : (e : ℤ) → 0 < down e
down_pos (pos k) = lit< tt
down_pos (negsuc k) = pow_pos (suc k)

pub lt_le : (x y z : Float) → lt x y ≡ true → le y z ≡ true → le x z ≡ true
unfolding lt le eq
lt_le nan y z h k = cc
lt_le (inf true) y nan h k = let l = le_nan y in cc
lt_le (inf true) y (inf true) h k = refl
lt_le (inf true) y (inf false) h k = refl
lt_le (inf true) y (fin u o g) h k = refl
lt_le (inf false) nan z h k = cc
lt_le (inf false) (inf t) z h k = cc
lt_le (inf false) (fin t n d) z h k = cc
lt_le (fin s m e) nan z h k = cc
lt_le (fin s m e) (inf true) z h k = cc
lt_le (fin s m e) (inf false) nan h k = cc
lt_le (fin s m e) (inf false) (inf true) h k = cc
lt_le (fin s m e) (inf false) (inf false) h k = refl
lt_le (fin s m e) (inf false) (fin u o g) h k = cc
lt_le (fin s m e) (fin t n d) nan h k = cc
lt_le (fin s m e) (fin t n d) (inf u) h k = k
lt_le (fin s m e) (fin t n d) (fin u o g) h k =
    core s t u (m * up e) (down e) (n * up d) (down d) (o * up g) (down g) (down_pos d) (down_pos g) h k
