-- What callers cite: cs counts only by whether it is 5 or more, and the parts of an accepted record's seed are small. Assumes nothing.
use Rattle.std.specs.Prelude.{◌≡◌, ℕ, ◌+◌, ◌*◌, ◌^◌, ◌<◌, ◌≤◌, Bool, true, false, T, ◌⊎◌, nat_le, refl, Float}
use Rattle.std.proofs.Common.{sym, ◌∙◌, le_trans, le_of_eq, lt_of_le_of_lt, mul-one, mul-pos, mul-le-mul_right, arith, inl, inr, leb-true, leb-false, le-leb, lit≤}
use Rattle.std.proofs.lemmas.Bool.{lt-leb}
use Rattle.std.specs.Float.{binary32}
use Rattle.std.specs.Float.Ieee.{round, add, mul}
use Rattle.std.specs.Float.Ieee.Positive.{num, den, den_pos}
use Rattle.floats.specs.Whole.{count}
use Rattle.floats.specs.Range.{in_range}
use Rattle.floats.specs.Laws.Values.{Sized, UpTo, add_value, round_at_most}
use Rattle.floats.specs.Laws.Ranges.{in_sized, in_high}
use Rattle.floats.specs.Laws.Wholes.{count_le, count_lt}
use Rattle.floats.specs.declared.Way.TheVariants.{Cut, Even}
use Rattle.model.specs.declared.Settings.{Settings}
use Rattle.model.specs.Limits.{setting_range}
use Rattle.mania.specs.Steps.{single}
use Rattle.mania.specs.Convert.{columns_by_share, columns_at}
use Rattle.settings.specs.Accepted.{Accepted}

-- ---- cs counts only by whether it is 5 or more

by_five : (cs cs' long objects od : ℕ) → nat_le 5 cs ≡ nat_le 5 cs' → columns_at long objects cs od ≡ columns_at long objects cs' od
unfolding columns_at columns_by_share
by_five cs cs' long objects od h = rw h

-- so a cs between two others gives what one of them gives
pub columns_between : (long objects cs low high od : ℕ) → low ≤ cs → cs ≤ high
    → (columns_at long objects cs od ≡ columns_at long objects low od) ⊎ (columns_at long objects cs od ≡ columns_at long objects high od)
columns_between long objects cs low high od h k = go (nat_le 5 cs) refl
  where
    go : (b : Bool) → nat_le 5 cs ≡ b → (columns_at long objects cs od ≡ columns_at long objects low od) ⊎ (columns_at long objects cs od ≡ columns_at long objects high od)
    go true e = inr (by_five cs high long objects od (e ∙ sym (le-leb 5 high (le_trans (leb-true 5 cs e) k))))
    go false e = inl (by_five cs low long objects od (e ∙ sym (lt-leb 5 low (lt_of_le_of_lt h (leb-false 5 cs e)))))

-- ---- the seed of an accepted record

highest : Sized setting_range.high
unfolding round
highest = (refl, refl)

lowest : Sized setting_range.low
unfolding round
lowest = (refl, refl)

pub at_most_ten : (x : Float) → T (in_range setting_range.low setting_range.high x) → UpTo 10 x
unfolding round
at_most_ten x h =
    record {
      size = in_sized setting_range.low setting_range.high x lowest highest h;
      high = le_trans (le_of_eq (sym (mul-one (num x)))) (in_high setting_range.low setting_range.high x lowest highest h);
    }

sum_le : (x y : Float) → UpTo 10 x → UpTo 10 y → count Even (add binary32 x y) ≤ 20
sum_le x y h k =
    let A = num x * den y + num y * den x in
    let C = den x * den y in
    let p : 0 < C = mul-pos (den_pos x) (den_pos y) in
    let l : A ≤ 20 * C = go (num x) (den x) (num y) (den y) h.high k.high in
    let S = round binary32 false A C in
    let r = round_at_most binary32 A C 20 p (lit≤ tt) l in
    rw (add_value binary32 x y (num x) (den x) (num y) (den y) (den_pos x) (den_pos y) h.size k.size) (count_le Even S (num S) (den S) 20 (den_pos S) r.size r.high)
  where
    go : (a b c d : ℕ) → a ≤ 10 * b → c ≤ 10 * d → a * d + c * b ≤ 20 * (b * d)
    go a b c d h k = omega (arith, mul-le-mul_right d h, mul-le-mul_right b k)

-- the parts of the sum, each as small as the sum in 32 bits needs it
pub record SmallSeed (s : Settings) : Type 0 where
  pub hp_cs : count Even (add binary32 s.hp s.cs) ≤ 20
  pub od : count Cut (mul binary32 s.od (single 412 10)) < 2 ^ 31
  pub ar : count Even s.ar ≤ 10

pub small_seed : (s : Settings) → Accepted s → SmallSeed s
small_seed s a =
    let ar = at_most_ten s.ar a.ar in
    record {
      hp_cs = sum_le s.hp s.cs (at_most_ten s.hp a.hp) (at_most_ten s.cs a.cs);
      od = count_lt Cut (mul binary32 s.od (single 412 10));
      ar = count_le Even s.ar (num s.ar) (den s.ar) 10 (den_pos s.ar) ar.size ar.high;
    }
