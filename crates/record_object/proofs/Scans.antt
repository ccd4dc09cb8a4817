-- The check of the objects: what is left of it after some of them. Assumes nothing.
use Rattle.std.specs.Prelude.{Ok, Err, eqb}
use Rattle.std.specs.Int.{from_bool}
use mathlib.Core.Path.{◌≡◌, refl, sym, ap, ◌∙◌}
use Prim.Native.Nat.{ℕ, zero, suc, ◌+◌, ◌-◌, ◌<◌, ◌≤◌}
use mathlib.Core.List.{List}
use native.Mathlib.Omega.{arith}
use lib.Ieee.{Float}
use Rattle.bits.specs.Field.{bits}
use Rattle.model.specs.Totals.{last_start, sliders_and_spinners}
use Rattle.rules.specs.declared.Refusal.{Refusal}
use Rattle.rules.specs.Coded.{code}
use Rattle.record.specs.Layout as At
use Rattle.record.specs.Refusal.{entries_refusal, entries, entries_end}
use Rattle.record.specs.Object.{start_at, read_object, object_end, object_refusal, objects_refusal, objects, objects_end, zero_start, scan_by, scan}
use Rattle.record.specs.Post.{is_long}
use Rattle.rules.specs.Laws.Coded.{code_some}
use Rattle.record.specs.Laws.Entries.{entries_next, end_next, list_stop}
use Rattle.record.specs.Laws.Objects.{objects_cons, longer_by}
use Rattle.record_object.specs.declared.Shape.{Shape}
use Rattle.record_object.specs.declared.Shape.TheVariants.{Circle, Slider, Spinner, Hold}
use Rattle.record_object.specs.Shape.{number}

-- The whole list's answers are those of the objects left, n from bit p on, after one that starts at `last`, with `long` sliders and spinners passed.
pub record Left (s : List ℕ) (at count p : ℕ) (last : Float) (long n : ℕ) : Type 0 where
  pub refusal : objects_refusal s at count ≡ entries_refusal (object_refusal s) (object_end s) (start_at s) p last n
  pub end : objects_end s at count ≡ objects_end s p n
  pub start : last_start zero_start (objects s at count) ≡ last_start last (objects s p n)
  pub number : sliders_and_spinners (objects s at count) ≡ long + sliders_and_spinners (objects s p n)

pub all_left : (s : List ℕ) (at count : ℕ) → Left s at count at zero_start 0 count
unfolding objects_refusal
all_left s at count = record { refusal = refl; end = refl; start = refl; number = omega arith }

ends_next : (s : List ℕ) (p n : ℕ) → 0 < n → objects_end s p n ≡ objects_end s (object_end s p) (n - 1)
unfolding objects_end
ends_next s p n h = end_next (object_end s) p n h

starts_next : (s : List ℕ) (p n : ℕ) (last : Float) → 0 < n → last_start last (objects s p n) ≡ last_start (start_at s p) (objects s (object_end s p) (n - 1))
unfolding last_start read_object
starts_next s p n last h = rw (objects_cons s p n h)

numbers_next : (s : List ℕ) (p n long : ℕ) → 0 < n
    → long + sliders_and_spinners (objects s p n) ≡ long + is_long (bits s p 2) + sliders_and_spinners (objects s (object_end s p) (n - 1))
unfolding sliders_and_spinners read_object
numbers_next s p n long h =
    rw (objects_cons s p n h, longer_by s (p + At.added) (bits s p 2) (sliders_and_spinners (objects s (object_end s p) (n - 1)))) (omega arith)

none_refused : (s : List ℕ) (p : ℕ) (last : Float) (n : ℕ) → n ≡ 0 → entries_refusal (object_refusal s) (object_end s) (start_at s) p last n ≡ 0
unfolding entries_refusal
none_refused s p last n h = rw h

none_end : (s : List ℕ) (p n : ℕ) → n ≡ 0 → objects_end s p n ≡ p
unfolding objects_end entries_end
none_end s p n h = rw h

none_start : (s : List ℕ) (p n : ℕ) (last : Float) → n ≡ 0 → last_start last (objects s p n) ≡ last
unfolding last_start objects entries
none_start s p n last h = rw h

none_number : (s : List ℕ) (p n long : ℕ) → n ≡ 0 → long + sliders_and_spinners (objects s p n) ≡ long
unfolding sliders_and_spinners objects entries
none_number s p n long h = rw h (omega arith)

scan_refused : (n m end : ℕ) (last : Float) (long : ℕ) → n ≡ m → (n ≡ 0 → ⊥) → Err n ≡ scan_by m end last long
scan_refused zero m end last long e h = absurd (h refl)
scan_refused (suc n) m end last long e h = rw (← e)

module _ (s : List ℕ) (at count p : ℕ) (last : Float) (long n : ℕ) (l : Left s at count p last long n) where
  -- a refused object is the list's refusal
  pub left_stop : (r : Refusal) → 0 < n → code r ≡ object_refusal s p last → Err (code r) ≡ scan s at count
  unfolding scan
  left_stop r h e =
      scan_refused (code r) (objects_refusal s at count) _ _ _ (sym (l.refusal ∙ list_stop (object_refusal s) (object_end s) (start_at s) p last n r h e)) (code_some r)

  -- after an object that is not refused
  pub left_next : (long₁ m : ℕ) → n ≡ m + 1 → 0 ≡ object_refusal s p last → long₁ ≡ long + is_long (bits s p 2) → Left s at count (object_end s p) (start_at s p) long₁ m
  left_next long₁ m h e g =
      let k : n - 1 ≡ m = omega arith in
      rw (← k, g)
      (record {
        refusal = l.refusal ∙ entries_next (object_refusal s) (object_end s) (start_at s) p last n (omega arith) (sym e);
        end = l.end ∙ ends_next s p n (omega arith);
        start = l.start ∙ starts_next s p n last (omega arith);
        number = l.number ∙ numbers_next s p n long (omega arith);
      })

  -- with none left
  pub left_none : n ≡ 0 → Ok (record { end = p; last = last; long = long }) ≡ scan s at count
  unfolding scan
  left_none h =
      rw (l.refusal ∙ none_refused s p last n h, l.end ∙ none_end s p n h, l.start ∙ none_start s p n last h, l.number ∙ none_number s p n long h)

-- what an object adds to the number of sliders and spinners, as the code has it
pub long_value : (shape : Shape) (k : ℕ) → number shape ≡ k → from_bool (eqb (is_long (number shape)) 1) ≡ is_long k
long_value shape k e = by shape ∙ ap is_long e
  where
    by : (shape : Shape) → from_bool (eqb (is_long (number shape)) 1) ≡ is_long (number shape)
    by Circle = refl
    by Slider = refl
    by Spinner = refl
    by Hold = refl

pub long_le : (k : ℕ) → is_long k ≤ 1
long_le zero = omega arith
long_le (suc zero) = omega arith
long_le (suc (suc zero)) = omega arith
long_le (suc (suc (suc k))) = omega arith
