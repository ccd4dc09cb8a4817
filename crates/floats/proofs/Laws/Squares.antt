-- Values whose sign is clear: a square has it, and a sum of two such values. Their roots are in order as they are (`root_mono`), and whether a root is below
-- another value is found by comparing bit patterns (`root_under_bits`). Assumes nothing.
use Rattle.std.specs.Prelude.{◌≡◌, ℕ, suc, ◌+◌, ◌-◌, ◌*◌, ◌%◌, ◌^◌, ◌<◌, ◌≤◌, Bool, true, false, not, T, ltb, leb, ℤ, from_bits, nat_le, nat_lt, to_bits, refl, Float}
use Rattle.std.proofs.Common.{sym, ap, ◌∙◌, subst, le_trans, le_of_eq, le_of_lt, le_of_suc-le-suc, lt_of_le_of_lt, eq-or-lt_of_le, mod-eq_of_lt, mul-le-mul_left, mul-le-mul_right, mul_right_comm, inl, inr, lt-ltb, le-ltb, nltb→le}
use Rattle.std.proofs.Math.Dec.{nleb→lt}
use Rattle.std.specs.Float.{nan, inf, fin, Format}
use Rattle.std.specs.Float.Ieee.{up, down, prec, low, hid, ones, top, round, add, sum, mul, lt, eq, le, fits}
use Rattle.std.specs.Float.Ieee.Bits.{of_bits-to_bits}
use Rattle.std.specs.Float.Ieee.Exact.{HasValue}
use Rattle.std.specs.Float.Ieee.Fits.{down_pos}
use Rattle.std.specs.Float.Ieee.Nearest.{div_mono}
use Rattle.std.specs.Float.Ieee.Scale.{finite, overflow}
use Rattle.floats.specs.Root.{square, root}
use Rattle.floats.specs.Laws.Patterns.{value, size_of, size_lt, small_value, lt_bits, special_bits}
use Rattle.floats.specs.Laws.Rounding.{lt_or_ge}
use Rattle.floats.proofs.Laws.Roots.{root_under, under_infinity, nearest_root_mono, nearest_root_up_to_infinity}
use Rattle.floats.specs.Laws.Values.{Sized, rounded_kind, le_not_lt}

-- ---- a clear sign; a NaN has none

abbrev pub clear : Float → Bool
clear nan = true
clear (inf s) = not s
clear (fin s m e) = not s

clear_round : (f : Format) (a c : ℕ) → T (clear (round f false a c))
clear_round f a c = elim (rounded_kind f a c) [ inl e ↦ subst (λ (z : Float). T (clear z)) (sym e) tt | inr v ↦ go (round f false a c) v ]
  where
    go : (x : Float) → Sized x → T (clear x)
    go nan v = absurd v
    go (inf s) v = absurd v
    go (fin s m e) v = subst (λ (b : Bool). T (not b)) (sym v.0) tt

pub clear_square : (f : Format) (x : Float) → T (clear (mul f x x))
unfolding mul
clear_square f nan = tt
clear_square f (inf true) = tt
clear_square f (inf false) = tt
clear_square f (fin true m e) = clear_round f (m * up e * (m * up e)) (down e * down e)
clear_square f (fin false m e) = clear_round f (m * up e * (m * up e)) (down e * down e)

pub clear_add : (f : Format) (x y : Float) → T (clear x) → T (clear y) → T (clear (add f x y))
unfolding add sum
clear_add f nan y h k = tt
clear_add f (inf s) nan h k = tt
clear_add f (inf true) (inf t) h k = absurd h
clear_add f (inf false) (inf true) h k = absurd k
clear_add f (inf false) (inf false) h k = tt
clear_add f (inf s) (fin t n d) h k = h
clear_add f (fin s m e) nan h k = tt
clear_add f (fin s m e) (inf t) h k = k
clear_add f (fin true m e) (fin t n d) h k = absurd h
clear_add f (fin false m e) (fin true n d) h k = absurd k
clear_add f (fin false m e) (fin false n d) h k = clear_round f (m * up e * down d + n * up d * down e) (down e * down d)

-- ---- a finite one has a pattern below that of the infinity

abbrev Signed : Float → Bool → Type 0
Signed nan s = ⊥
Signed (inf t) s = ⊥
Signed (fin t n d) s = t ≡ s

signed : (z : Float) (s : Bool) (a c : ℕ) → HasValue z s a c → Signed z s
signed nan s a c v = v
signed (inf t) s a c v = v
signed (fin t n d) s a c v = v.0

pub small_pattern : (f : Format) (m : ℕ) (e : ℤ) → T (fits f (fin false m e)) → to_bits f (fin false m e) < ones f * hid f
small_pattern f m e h =
    let x = fin false m e in
    let b = to_bits f x in
    let back = of_bits-to_bits f x h in
    let real : T (finite (from_bits f b)) = subst (λ (z : Float). T (finite z)) (sym back) tt in
    let sign : false ≡ leb (top f) b = subst (λ (z : Float). Signed z (nat_le (top f) b)) back (signed (from_bits f b) _ _ _ (value f b real)) in
    let under : b < top f = nleb→lt (top f) b (subst (λ (z : Bool). T (not z)) sign tt) in
    elim (lt_or_ge b (ones f * hid f)) [
      | inl l ↦ l
      | inr g ↦ absurd (subst T (special_bits f b (le_trans g (le_of_eq (sym (mod-eq_of_lt under))))) real)
    ]

-- ---- the root

-- of values in order the roots are in order, infinities included
pub root_mono : (f : Format) (x y : Float) → T (clear x) → T (clear y) → T (le x y) → T (le (root f x) (root f y))
unfolding root le lt eq
root_mono f nan y s t h = absurd h
root_mono f (inf true) y s t h = absurd s
root_mono f (inf false) nan s t h = absurd h
root_mono f (inf false) (inf true) s t h = absurd t
root_mono f (inf false) (inf false) s t h = tt
root_mono f (inf false) (fin _ n d) s t h = absurd h
root_mono f (fin true m e) y s t h = absurd s
root_mono f (fin false m e) nan s t h = absurd h
root_mono f (fin false m e) (inf true) s t h = absurd t
root_mono f (fin false m e) (inf false) s t h = nearest_root_up_to_infinity f _
root_mono f (fin false m e) (fin true n d) s t h = absurd t
root_mono f (fin false m e) (fin false n d) s t h =
    nearest_root_mono f _ _
    (mul-le-mul_right (2 ^ low f)
    (div_mono (m * up e * 2 ^ low f) (down e) (n * up d * 2 ^ low f) (down d) (down_pos e) (down_pos d)
    (le_trans (le_of_eq (mul_right_comm (m * up e) (2 ^ low f) (down d))) (le_trans (mul-le-mul_right (2 ^ low f) order) (le_of_eq (mul_right_comm (n * up d) (down e) (2 ^ low f)))))))
  where
    order : m * up e * down d ≤ n * up d * down e
    order = nltb→le (n * up d * down e) (m * up e * down d) (subst T (le_not_lt (fin false m e) (fin false n d) _ _ _ _ (refl, refl) (refl, refl)) h)

-- y is the value of (h + 1) * 2 ^ j units, and the middle before it lies between the values of two neighbouring patterns: the root of x is below y exactly where x is below the larger
pub root_under_bits : (f : Format) (x y : Float) (c h j : ℕ) → T (fits f x) → T (clear x) → HasValue y false (suc h * 2 ^ j) (2 ^ low f)
    → h % 2 ≡ 1 → 2 ^ (prec f - 1) ≤ h → h < 2 ^ prec f → suc h * 2 ^ j ≤ overflow f → suc c < ones f * hid f
    → 4 * (size_of f c * 2 ^ low f) < square (h * 2 ^ j + suc h * 2 ^ j) → square (h * 2 ^ j + suc h * 2 ^ j) ≤ 4 * (size_of f (suc c) * 2 ^ low f)
    → lt (root f x) y ≡ lt x (from_bits f (suc c))
unfolding root lt
root_under_bits f nan y c h j F s w odd least most small C lo hi = refl
root_under_bits f (inf true) y c h j F s w odd least most small C lo hi = absurd s
root_under_bits f (inf false) y c h j F s w odd least most small C lo hi = under_infinity y _ _ w ∙ sym (under_infinity (from_bits f (suc c)) _ _ (small_value f (suc c) C))
root_under_bits f (fin true m e) y c h j F s w odd least most small C lo hi = absurd s
root_under_bits f (fin false m e) y c h j F s w odd least most small C lo hi =
    let x = fin false m e in
    let b = to_bits f x in
    let back = of_bits-to_bits f x F in
    let B = small_pattern f m e F in
    let v : HasValue x false (size_of f b) (2 ^ low f) = subst (λ (z : Float). HasValue z false (size_of f b) (2 ^ low f)) back (small_value f b B) in
    let l : lt x (from_bits f (suc c)) ≡ ltb b (suc c) = ap (λ (z : Float). lt z (from_bits f (suc c))) (sym back) ∙ lt_bits f b (suc c) B C in
    root_under f x y (size_of f b) h j v w odd least most small ∙ go b ∙ sym l
  where
    up_to : (a d : ℕ) → a ≤ d → 4 * (size_of f a * 2 ^ low f) ≤ 4 * (size_of f d * 2 ^ low f)
    up_to a d g = mul-le-mul_left 4 (mul-le-mul_right (2 ^ low f) (elim (eq-or-lt_of_le g) [ inl r ↦ le_of_eq (ap (size_of f) r) | inr k ↦ le_of_lt (size_lt f a d k) ]))

    go : (b : ℕ) → nat_lt (4 * (size_of f b * 2 ^ low f)) (square (h * 2 ^ j + suc h * 2 ^ j)) ≡ nat_lt b (suc c)
    go b = elim (lt_or_ge b (suc c)) [
      | inl k ↦ lt-ltb _ _ (lt_of_le_of_lt (up_to b c (le_of_suc-le-suc k)) lo) ∙ sym (lt-ltb _ _ k)
      | inr g ↦ le-ltb _ _ (le_trans hi (up_to (suc c) b g)) ∙ sym (le-ltb _ _ g)
    ]
