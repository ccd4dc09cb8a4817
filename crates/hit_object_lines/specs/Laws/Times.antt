-- Whole milliseconds as times: the pattern of a whole number, and the whole number of a pattern.
-- Assumes nothing.
use Rattle.std.specs.Prelude.{◌≡◌, true, false, not, T, eqb, pos, Float}
use Rattle.std.proofs.Common.{sym, ◌∙◌, ⊎_elim, mul-div_cancel, mul_assoc, mul_comm, mul-one, div-add-mod', add-zero, lt_irrefl, le_trans, le-add_right, le-add_left, zero-add, pow_pos, eqb-true, eq-eqb, ne_eqb}
use Rattle.std.proofs.Math.Path.{ap}
use Prim.Native.Nat.{ℕ, ◌+◌, ◌*◌, ◌/◌, ◌%◌, ◌^◌, ◌≤◌, ◌<◌, min}
use Rattle.std.proofs.Math.Nat.{mul-mod_left, div-le_of_le-mul, add-mod, mod-mod}
use native.Mathlib.Omega.{arith}
use Rattle.std.specs.Float.Ieee.{is_nan, binary64, up, down, to_bits, of_int}
use Rattle.std.specs.Float.{nan, inf, fin}
use Rattle.std.specs.Float.Ieee.Exact.{HasValue}
use Rattle.std.specs.Float.Ieee.Fits.{of_int-fits, down_pos}
use Rattle.std.proofs.lemmas.Bool.{eqb-false}
use Rattle.floats.specs.Format.{infinity}
use Rattle.floats.specs.Ticks.{ticks}
use Rattle.floats.specs.Whole.{count, rounded}
use Rattle.floats.specs.declared.Way.TheVariants.{Cut}
use Rattle.floats.specs.Laws.Values.{sized}
use Rattle.floats.specs.Laws.Patterns.{small_value}
use Rattle.floats.specs.Laws.Wholes.{count_value}
use Rattle.floats.specs.Laws.Integers.{int_value}
use Rattle.model.specs.Limits.{latest_end}
use Rattle.chart.specs.Time.{time, latest}
use Rattle.chart.specs.Tests.{either_way}
use Rattle.chart.specs.Laws.Times.{le_or_lt, time_fits, ticks_mono, ticks_size, time_to_bits, to_bits_time}
use Rattle.hit_object_lines.specs.Lines.{millisecond}
use Rattle.hit_object_lines.specs.Reading.{time_of}

-- a whole number of milliseconds, in ticks
scale : (x : Float) (k : ℕ) → HasValue x false k 1 → ticks x ≡ k * 2 ^ 1074
unfolding ticks
scale nan k h = absurd h
scale (inf s) k h = absurd h
scale (fin s m e) k h =
    let n : m * up e * 2 ^ 1074 ≡ k * 2 ^ 1074 * down e =
    ap (λ (z : ℕ). z * 2 ^ 1074) (sym (mul-one (m * up e)) ∙ h.1) ∙ mul_assoc k (down e) (2 ^ 1074) ∙ ap (λ (z : ℕ). k * z) (mul_comm (down e) (2 ^ 1074)) ∙ sym (mul_assoc k (2 ^ 1074) (down e)) in
    ap (λ (z : ℕ). z / down e) n ∙ mul-div_cancel (k * 2 ^ 1074) (down_pos e)

module _ (k : ℕ) (few : k ≤ latest_end) where
  exact : HasValue (of_int binary64 (pos k)) false k 1
  exact = int_value binary64 k (omega arith)

  pub ticks_of : ticks (time (time_of k)) ≡ k * millisecond
  unfolding time_of millisecond
  ticks_of = ap ticks (time_to_bits (of_int binary64 (pos k)) (of_int-fits binary64 (pos k))) ∙ scale (of_int binary64 (pos k)) k exact

  pub time_below : time_of k < infinity
  unfolding time_of
  time_below = time_fits (to_bits binary64 (of_int binary64 (pos k))) (to_bits_time (of_int binary64 (pos k)) (of_int-fits binary64 (pos k)) (sized (of_int binary64 (pos k)) k 1 exact))

  -- it is the only time of that size
  pub time_is : (b : ℕ) → b < infinity → ticks (time b) ≡ k * millisecond → b ≡ time_of k
  time_is b h e =
      ⊎_elim
      (λ (l : b ≤ time_of k).
      ⊎_elim (λ (m : time_of k ≤ b). let same : b ≡ time_of k = omega arith in same)
      (λ (m : b < time_of k). absurd (lt_irrefl (ticks (time b)) (rw (sym (e ∙ sym ticks_of)) at (ticks_mono b (time_of k) m time_below)))) (le_or_lt (time_of k) b))
      (λ (m : time_of k < b). absurd (lt_irrefl (ticks (time b)) (rw (ticks_of ∙ sym e) at (ticks_mono (time_of k) b m h))))
      (le_or_lt b (time_of k))

-- a time up to the latest end
pub record InTime (b : ℕ) : Type 0 where
  pub is_time_law : b < infinity
  pub early : ticks (time b) ≤ latest

pub one_ms : 0 < millisecond
unfolding millisecond
one_ms = pow_pos 1074

pub most_ms : (t : ℕ) → t ≤ latest → t / millisecond ≤ latest_end
unfolding millisecond
most_ms t h = div-le_of_le-mul (2 ^ 1074) (rw (mul_comm (2 ^ 1074) latest_end) h)

module _ (b : ℕ) (h : InTime b) where
  exactly : HasValue (time b) false (ticks (time b)) (2 ^ 1074)
  exactly = rw (ticks_size b h.is_time_law) (small_value binary64 b h.is_time_law)

  pub few_ms : ticks (time b) / millisecond ≤ latest_end
  few_ms = most_ms (ticks (time b)) h.early

  pub count_ms : count Cut (time b) ≡ ticks (time b) / millisecond
  unfolding millisecond rounded
  count_ms = count_value Cut (time b) (ticks (time b)) (2 ^ 1074) (pow_pos 1074) exactly ∙ go (ticks (time b) / 2 ^ 1074) few_ms
    where
      go : (k : ℕ) → k ≤ latest_end → min k 2147483647 ≡ k
      go k p = omega arith

  -- a time is whole exactly where its whole number has the same pattern
  pub whole_pattern : eqb (time_of (ticks (time b) / millisecond)) b ≡ eqb (ticks (time b) % millisecond) 0
  whole_pattern =
      let k : ℕ = ticks (time b) / millisecond in
      ⊎_elim
      (λ (e : eqb (ticks (time b) % millisecond) 0 ≡ true).
      let none = eqb-true (ticks (time b) % millisecond) 0 e in
      let all : ticks (time b) ≡ k * millisecond = sym (div-add-mod' (ticks (time b)) millisecond) ∙ rw none (add-zero (k * millisecond)) in
      eq-eqb (time_of k) b (sym (time_is k few_ms b h.is_time_law all)) ∙ sym e)
      (λ (e : eqb (ticks (time b) % millisecond) 0 ≡ false).
      ne_eqb (time_of k) b (λ (same : time_of k ≡ b).
      eqb-false (ticks (time b) % millisecond) 0 e
      (ap (λ (z : ℕ). z % millisecond) (ap (λ (z : ℕ). ticks (time z)) (sym same) ∙ ticks_of k few_ms) ∙ mul-mod_left k millisecond)) ∙ sym e)
      (either_way (eqb (ticks (time b) % millisecond) 0))

-- every number of 32 bits is exact
pub int_no_nan : (k : ℕ) → k < 2 ^ 32 → T (not (is_nan (of_int binary64 (pos k))))
unfolding is_nan
int_no_nan k h = go (of_int binary64 (pos k)) (int_value binary64 k (omega arith))
  where
    go : (x : Float) → HasValue x false k 1 → T (not (is_nan x))
    go nan v = absurd v
    go (inf s) v = absurd v
    go (fin s m e) v = tt

pub in_start : (a b : ℕ) → a < infinity → ticks (time a) + ticks (time b) ≤ latest → InTime a
in_start a b h l = record { is_time_law = h; early = le_trans (le-add_right (ticks (time a)) (ticks (time b))) l }

pub in_duration : (a b : ℕ) → b < infinity → ticks (time a) + ticks (time b) ≤ latest → InTime b
in_duration a b h l = record { is_time_law = h; early = le_trans (le-add_left (ticks (time b)) (ticks (time a))) l }

-- what is added to a whole number decides
pub sum_whole : (s d : ℕ) → s % millisecond ≡ 0 → (s + d) % millisecond ≡ d % millisecond
sum_whole s d e = add-mod s d millisecond ∙ rw e (rw (zero-add (d % millisecond)) (mod-mod d millisecond))
