-- Times by their bit patterns: the times are the patterns below infinity's, and the order of the patterns is the order of the times.
-- Assumes nothing.
use Rattle.std.specs.Prelude.{◌≡◌, refl, Bool, true, false, not, ◌&&◌, ◌⊎◌, ℕ, zero, suc, ◌*◌, ◌%◌, ◌^◌, ◌≤◌, ◌<◌, T, leb, ltb, ℤ, pos, Float}
use Rattle.std.proofs.Common.{sym, ap, ◌∙◌, inl, inr, ⊎_elim, zero-le, suc-le-suc, mul-div_cancel, mul-pos, le_of_lt, lt_of_le_of_lt, arith, lit<, pow_pos, lt-ltb, le-ltb, le-leb, ne_eqb}
use Rattle.std.specs.Float.{nan, inf, fin, binary64}
use Rattle.std.specs.Float.Ieee.{up, down, lt, le, eq, fits, to_bits}
use Rattle.std.specs.Float.Ieee.Bits.{of_bits-to_bits}
use Rattle.std.specs.Float.Ieee.Exact.{HasValue}
use Rattle.std.specs.Float.Ieee.Fits.{up_pos, down_pos}
use Rattle.std.specs.Float.Ieee.Positive.{num, den, den_pos}
use Rattle.std.specs.Float.Ieee.Scale.{finite}
use Rattle.std.proofs.lemmas.Bool.{lt-leb}
use Rattle.floats.specs.Format.{infinity}
use Rattle.floats.specs.Range.{in_range, negative_zero}
use Rattle.floats.specs.Ticks.{ticks}
use Rattle.floats.specs.Laws.Values.{le_not_lt, lt_value, Sized}
use Rattle.floats.specs.Laws.Patterns.{size_of, small_value, size_lt, special_bits, plain_bits, value}
use Rattle.chart.specs.Tests.{never}
use Rattle.chart.specs.Time.{time, is_time}

pub le_or_lt : (a b : ℕ) → (a ≤ b) ⊎ (b < a)
le_or_lt zero b = inl zero-le
le_or_lt (suc a) zero = inr (suc-le-suc zero-le)
le_or_lt (suc a) (suc b) = ⊎_elim (λ p. inl (suc-le-suc p)) (λ q. inr (suc-le-suc q)) (le_or_lt a b)

-- ---- which floats are times

abbrev zero_time : Float
zero_time = fin false 0 (pos 0)

end_time_law : (s : Bool) (m : ℕ) (e : ℤ) → s ≡ false → not (negative_zero (fin s m e)) && true && le (fin s m e) (inf false) ≡ true
unfolding le lt
end_time_law s m e h = rw h

from_zero : (x : Float) (a c : ℕ) → 0 < c → HasValue x false a c → le zero_time x ≡ true
from_zero x a c C h =
    le_not_lt zero_time x 0 1 a c (refl, refl) h
    ∙ ap not (lt_value x zero_time a c 0 1 C (lit< tt) h (refl, refl) ∙ le-ltb (a * 1) (0 * c) (omega arith))

pub value_time : (x : Float) (a c : ℕ) → 0 < c → HasValue x false a c → is_time x ≡ true
unfolding is_time in_range
value_time nan a c C h = absurd h
value_time (inf s) a c C h = absurd h
value_time (fin s m e) a c C h = rw (from_zero (fin s m e) a c C h) (end_time_law s m e h.0)

-- a minus sign: below 0, or negative zero
minus_time : (x : Float) (a c : ℕ) → HasValue x true a c → is_time x ≡ false
unfolding is_time in_range le lt eq
minus_time nan a c h = absurd h
minus_time (inf s) a c h = absurd h
minus_time (fin s zero e) a c h = rw h.0
minus_time (fin s (suc m) e) a c h =
    let some : 0 < suc m * up e * 1 = mul-pos (mul-pos (omega arith) (up_pos e)) (lit< tt) in
    rw (h.0, ne_eqb (suc m) 0 (λ q. omega arith), ne_eqb (0 * 1 * down e) (suc m * up e * 1) (λ q. omega arith))

finite_time : (x : Float) → finite x ≡ false → is_time x ≡ false
unfolding is_time in_range
finite_time x h = rw h

-- ---- the times are the patterns below that of infinity

pub time_below : (b : ℕ) → b < infinity → is_time (time b) ≡ true
time_below b h = value_time (time b) (size_of binary64 b) (2 ^ 1074) (pow_pos 1074) (small_value binary64 b h)

pub time_above : (b : ℕ) → infinity ≤ b → is_time (time b) ≡ false
time_above b h =
    ⊎_elim
    (λ (l : infinity ≤ b % 2 ^ 63). finite_time (time b) (special_bits binary64 b l))
    (λ (l : b % 2 ^ 63 < infinity).
    let minus : 2 ^ 63 ≤ b = omega arith in
    minus_time (time b) _ (2 ^ 1074) (rw (le-leb (2 ^ 63) b minus) at (value binary64 b (rw (plain_bits binary64 b l) tt))))
    (le_or_lt infinity (b % 2 ^ 63))

pub time_fits : (b : ℕ) → is_time (time b) ≡ true → b < infinity
time_fits b t = ⊎_elim (λ (l : infinity ≤ b). absurd (never t (time_above b l))) (λ l. l) (le_or_lt infinity b)

-- ---- the order of the patterns is the order of the times

-- the division in `ticks` leaves nothing
pub ticks_is : (x : Float) (a : ℕ) → HasValue x false a (2 ^ 1074) → ticks x ≡ a
unfolding ticks
ticks_is nan a h = absurd h
ticks_is (inf s) a h = absurd h
ticks_is (fin s m e) a h = rw h.1 (mul-div_cancel a (down_pos e))

pub ticks_size : (b : ℕ) → b < infinity → ticks (time b) ≡ size_of binary64 b
ticks_size b h = ticks_is (time b) (size_of binary64 b) (small_value binary64 b h)

pub ticks_mono : (a b : ℕ) → a < b → b < infinity → ticks (time a) < ticks (time b)
ticks_mono a b h k = rw (ticks_size a (omega arith), ticks_size b k) (size_lt binary64 a b h)

pub ticks_leb : (a b : ℕ) → a < infinity → b < infinity → leb (ticks (time a)) (ticks (time b)) ≡ leb a b
ticks_leb a b h k =
    ⊎_elim
    (λ (l : a ≤ b).
    let up : ticks (time a) ≤ ticks (time b) = ⊎_elim (λ (m : b ≤ a). let e : a ≡ b = omega arith in rw e (omega arith)) (λ (m : a < b). le_of_lt (ticks_mono a b m k)) (le_or_lt b a) in
    le-leb (ticks (time a)) (ticks (time b)) up ∙ sym (le-leb a b l))
    (λ (l : b < a). lt-leb (ticks (time a)) (ticks (time b)) (ticks_mono b a l h) ∙ sym (lt-leb a b l))
    (le_or_lt a b)

pub ticks_zero : ticks (time 0) ≡ 0
ticks_zero = ticks_size 0 (omega arith)

pub ticks_positive : (b : ℕ) → b < infinity → ltb 0 (ticks (time b)) ≡ ltb 0 b
ticks_positive zero h = rw ticks_zero
ticks_positive (suc b) h = lt-ltb 0 (ticks (time (suc b))) (lt_of_le_of_lt zero-le (ticks_mono 0 (suc b) (omega arith) h)) ∙ sym (lt-ltb 0 (suc b) (omega arith))

-- ---- the pattern of a float that code has computed says what the float says

pub time_to_bits : (x : Float) → T (fits binary64 x) → time (to_bits binary64 x) ≡ x
time_to_bits x h = of_bits-to_bits binary64 x h

pub sized_time : (x : Float) → Sized x → is_time x ≡ true
sized_time x v = value_time x (num x) (den x) (den_pos x) v

pub to_bits_time : (x : Float) → T (fits binary64 x) → Sized x → is_time (time (to_bits binary64 x)) ≡ true
to_bits_time x h v = rw (time_to_bits x h) (sized_time x v)
