-- Which of the three orders two numbers are in, and that adding to both and scaling both keeps it.
-- Assumes nothing.
use Rattle.std.specs.Prelude.{◌≡◌, refl, Bool, true, false, cond, not, eqb, ℕ, ◌+◌, ◌*◌, ◌≤◌, ◌<◌, leb, ltb}
use Rattle.std.proofs.Common.{sym, ap, ◌∙◌, ⊎_elim, mul-lt-mul_of_pos_right, arith, lt-ltb, le-ltb, le-leb, eq-eqb, ne_eqb}
use Rattle.std.proofs.lemmas.Bool.{lt-leb}
use Rattle.chart.specs.Laws.Times.{le_or_lt}
use Rattle.std.specs.declared.cmp.Ordering.TheVariants.{Less, Equal, Greater}
use Rattle.std.specs.declared.cmp.Ordering.{Ordering}
use Rattle.std.specs.Ordering.{is_lt, is_gt, is_le, is_ge}
use Rattle.exact_times.specs.Compare.{order_of}

pub less : (m n : ℕ) → m < n → Less ≡ order_of m n
unfolding order_of
less m n h = rw (lt-ltb m n h)

pub equal : (m n : ℕ) → m ≡ n → Equal ≡ order_of m n
unfolding order_of
equal m n h = rw (le-ltb m n (omega arith), eq-eqb m n h)

pub greater : (m n : ℕ) → n < m → Greater ≡ order_of m n
unfolding order_of
greater m n h = rw (le-ltb m n (omega arith), ne_eqb m n (λ (e : m ≡ n). omega arith))

-- two pairs of numbers in one order
pub same_order : (m n u v : ℕ) → (m < n → u < v) → (m ≡ n → u ≡ v) → (n < m → v < u) → order_of u v ≡ order_of m n
same_order m n u v l e g =
    ⊎_elim
    (λ (h : m ≤ n).
    ⊎_elim (λ (k : n ≤ m). let q : m ≡ n = omega arith in sym (equal u v (e q)) ∙ equal m n q) (λ (k : m < n). sym (less u v (l k)) ∙ less m n k) (le_or_lt n m))
    (λ (h : n < m). sym (greater u v (g h)) ∙ greater m n h)
    (le_or_lt m n)

pub scale_add : (a m n k : ℕ) → 0 < k → order_of (a * k + m * k) (a * k + n * k) ≡ order_of m n
scale_add a m n k K =
    same_order m n (a * k + m * k) (a * k + n * k)
    (λ (h : m < n). omega (arith, mul-lt-mul_of_pos_right h K))
    (λ (h : m ≡ n). rw h refl)
    (λ (h : n < m). omega (arith, mul-lt-mul_of_pos_right h K))

-- ---- tests that say the same

pub same_ltb : (m n u v : ℕ) → (m < n → u < v) → (n ≤ m → v ≤ u) → ltb u v ≡ ltb m n
same_ltb m n u v l g =
    ⊎_elim (λ (h : n ≤ m). le-ltb u v (g h) ∙ sym (le-ltb m n h)) (λ (h : m < n). lt-ltb u v (l h) ∙ sym (lt-ltb m n h)) (le_or_lt n m)

pub less_ltb : (m n : ℕ) → is_lt (order_of m n) ≡ ltb m n
unfolding order_of
less_ltb m n = by_tests (ltb m n) (eqb m n)
  where
    by_tests : (b e : Bool) → is_lt (cond b Less (cond e Equal Greater)) ≡ b
    by_tests true e = refl
    by_tests false true = refl
    by_tests false false = refl

pub greater_ltb : (m n : ℕ) → is_gt (order_of m n) ≡ ltb n m
greater_ltb m n =
    ⊎_elim
    (λ (h : m ≤ n).
    ⊎_elim
    (λ (k : n ≤ m). let q : m ≡ n = omega arith in rw (← (equal m n q)) (sym (le-ltb n m h)))
    (λ (k : m < n). rw (← (less m n k)) (sym (le-ltb n m h)))
    (le_or_lt n m))
    (λ (h : n < m). rw (← (greater m n h)) (sym (lt-ltb n m h)))
    (le_or_lt m n)

not_less : (o : Ordering) → is_ge o ≡ not (is_lt o)
not_less Less = refl
not_less Equal = refl
not_less Greater = refl

not_greater : (o : Ordering) → is_le o ≡ not (is_gt o)
not_greater Less = refl
not_greater Equal = refl
not_greater Greater = refl

pub from_ltb : (m n : ℕ) → is_ge (order_of m n) ≡ not (ltb m n)
from_ltb m n = not_less (order_of m n) ∙ ap not (less_ltb m n)

pub up_to_ltb : (m n : ℕ) → is_le (order_of m n) ≡ not (ltb n m)
up_to_ltb m n = not_greater (order_of m n) ∙ ap not (greater_ltb m n)

pub not_ltb : (m n : ℕ) → not (ltb m n) ≡ leb n m
not_ltb m n =
    ⊎_elim (λ (h : n ≤ m). rw (le-ltb m n h) (sym (le-leb n m h))) (λ (h : m < n). rw (lt-ltb m n h) (sym (lt-leb n m h))) (le_or_lt n m)
