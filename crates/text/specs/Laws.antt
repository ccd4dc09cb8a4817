-- Laws of the text that proofs of this crate and of others cite.
-- Assumes nothing.
use Rattle.std.specs.Prelude.{◌≡◌, refl, Bool, true, false, List, [], ◌∷◌, ◌++◌, ℕ, zero, suc, ◌+◌, ◌-◌, ◌*◌, ◌/◌, ◌%◌, ◌^◌, ◌≤◌, ◌<◌, max, ltb, length, get_or, take, drop, set, replicate}
use Rattle.std.proofs.Common.{sym, ap, ◌∙◌, pow-suc, div-lt_iff_lt-mul, add-one, arith, length-append, length-drop, drop-cons, take_at, take_all, length-take-le, lt-ltb, le-ltb, ltb-false}
use Rattle.std.proofs.lemmas.List.{drop-drop, length-replicate, replicate-append-replicate, get_or_at}
use Rattle.std.proofs.Math.Nat.{one-le-pow}
use Rattle.std.proofs.Math.Seq.{take-suc, drop-length}
use borrow.Rule.Slice.PartMut.{put_mid}
use Rattle.chart.specs.Bytes.{splice}
use Rattle.chart.specs.Laws.Bytes.{splice_none, splice_one, splice_before, splice_next, length_splice}
use Rattle.text.specs.Text.{digit, digits, places, decimal, hex, space, right, left}

-- ---- runs of bytes

-- s is s₀ with the run w from index i on, and `at` is the index after it
pub record Wrote (s₀ : List ℕ) (i : ℕ) (w s : List ℕ) (at : ℕ) : Type 0 where
  pub bytes : s ≡ splice s₀ i w
  pub next : at ≡ i + length w

pub wrote_first : {s₀ s : List ℕ} {i at : ℕ} (v : List ℕ) → s ≡ splice s₀ i v → at ≡ i + length v → Wrote s₀ i v s at
wrote_first v e n = record { bytes = e; next = n }

-- one more run
pub wrote_next : {s₀ w s t : List ℕ} {i at next : ℕ} (v : List ℕ) → Wrote s₀ i w s at → t ≡ splice s at v → next ≡ at + length v → next ≤ length s₀
    → Wrote s₀ i (w ++ v) t next
wrote_next {s₀ = s₀} {w = w} {i = i} {at = at} v h e n l =
    record {
      bytes = e ∙ rw h.bytes (splice_next s₀ i w at v h.next (omega arith));
      next = omega (arith, h.next, length-append w v);
    }

-- one more of the same character
pub run_more : (s₀ s : List ℕ) (at c i : ℕ) → at + i < length s₀ → s ≡ splice s₀ at (replicate i c) → set s (at + i) c ≡ splice s₀ at (replicate (i + 1) c)
run_more s₀ s at c i h e =
    let size : length (replicate i c) ≡ i = length-replicate i c in
    let in_s : at + i < length (splice s₀ at (replicate i c)) = rw (length_splice s₀ at (replicate i c) (omega arith)) h in
    rw e (splice_one (splice s₀ at (replicate i c)) (at + i) c in_s
    ∙ splice_next s₀ at (replicate i c) (at + i) (c ∷ []) (omega arith) (omega arith)
    ∙ ap (splice s₀ at) (replicate-append-replicate i 1 c))

-- a part of s, as the code writes it: in place of k bytes from index a on as many others
pub part_splice : (a k : ℕ) (s v : List ℕ) → k ≡ length v → put_mid a k s v ≡ splice s a v
unfolding splice
part_splice a k s v e = rw (e, drop-drop (length v) a s)

-- ---- digits

pub length_digits : (base k n : ℕ) → length (digits base k n) ≡ k
unfolding digits
length_digits base zero n = refl
length_digits base (suc k) n = length-append (digits base k (n / base)) (digit (n % base) ∷ []) ∙ rw (length_digits base k (n / base)) (omega arith)

pub length_hex : (bits : ℕ) → length (hex bits) ≡ 16
unfolding hex
length_hex bits = length_digits 16 16 bits

-- all k digits are still to be stored
pub digits_none : (s : List ℕ) (at base k n : ℕ) → at + k ≤ length s → (s ≡ splice s (at + k) (drop k (digits base k n))) × (digits base k n ≡ take k (digits base k n))
digits_none s at base k n h =
    let d : List ℕ = digits base k n in
    let size : length d ≡ k = length_digits base k n in
    let none : drop k d ≡ [] = rw size at (drop-length d) in
    (rw none (sym (splice_none s (at + k) h)), sym (take_all k d (omega arith)))

-- the digit of index i is stored: rest has the first i + 1 of the digits d
module _ (d : List ℕ) (base i rest : ℕ) (within : i < length d) (first : digits base (i + 1) rest ≡ take (i + 1) d) where
  split : digits base i (rest / base) ++ (digit (rest % base) ∷ []) ≡ take i d ++ (get_or d i 0 ∷ [])
  unfolding digits
  split = rw (add-one i) at first ∙ take-suc d i 0 within

  pub digits_first : digits base i (rest / base) ≡ take i d
  digits_first =
      sym (take_at (digits base i (rest / base)) (digit (rest % base) ∷ []) i (length_digits base i (rest / base)))
      ∙ ap (take i) split
      ∙ take_at (take i d) (get_or d i 0 ∷ []) i (length-take-le i d (omega arith))

  pub digits_last : digit (rest % base) ≡ get_or d i 0
  digits_last =
      sym (get_or_at (digits base i (rest / base)) (digit (rest % base)) [] 0 i (length_digits base i (rest / base)))
      ∙ ap (λ (l : List ℕ). get_or l i 0) split
      ∙ get_or_at (take i d) (get_or d i 0) [] 0 i (length-take-le i d (omega arith))

  pub digits_store : (s₀ : List ℕ) (at : ℕ) → at + length d ≤ length s₀ → set (splice s₀ (at + (i + 1)) (drop (i + 1) d)) (at + i) (digit (rest % base)) ≡ splice s₀ (at + i) (drop i d)
  digits_store s₀ at h =
      let one : drop i d ≡ digit (rest % base) ∷ drop (i + 1) d = drop-cons d i 0 within ∙ rw (digits_last, add-one i) in
      let same : at + (i + 1) ≡ at + i + 1 = omega arith in
      rw (one, same) (splice_before s₀ (at + i) (digit (rest % base)) (drop (i + 1) d) (omega (arith, length-drop (i + 1) d)))

-- a turn of the loop: of the k digits of n, those from index i on are stored, and rest has the others
pub digits_next : (s₀ s : List ℕ) (at base k n i rest g : ℕ) → 0 < i → i ≤ k → at + k ≤ length s₀ → g ≡ digit (rest % base)
    → s ≡ splice s₀ (at + i) (drop i (digits base k n)) → digits base i rest ≡ take i (digits base k n)
    → (set s (at + (i - 1)) g ≡ splice s₀ (at + (i - 1)) (drop (i - 1) (digits base k n))) × (digits base (i - 1) (rest / base) ≡ take (i - 1) (digits base k n))
digits_next s₀ s at base k n (suc j) rest g p l h e is first =
    let d : List ℕ = digits base k n in
    let same : suc j - 1 ≡ j = omega arith in
    let below : j < length d = omega (arith, length_digits base k n) in
    let first₁ : digits base (j + 1) rest ≡ take (j + 1) d = rw (add-one j) first in
    let is₁ : s ≡ splice s₀ (at + (j + 1)) (drop (j + 1) d) = rw (add-one j) is in
    rw (same, is₁, e) (digits_store d base j rest below first₁ s₀ at (omega (arith, length_digits base k n)), digits_first d base j rest below first₁)
digits_next s₀ s at base k n zero rest g p l h e is first = elim p [ ]

-- ---- decimal numbers

pub places_one : (k n : ℕ) → n < 10 → places k (ltb n 10) n ≡ 1
unfolding places
places_one zero n h = refl
places_one (suc k) n h = rw (lt-ltb n 10 h)

pub places_more : (k n : ℕ) → 10 ≤ n → 0 < k → places k (ltb n 10) n ≡ places (k - 1) (ltb (n / 10) 10) (n / 10) + 1
unfolding places
places_more (suc k) n h p = let same : k ≡ suc k - 1 = omega arith in rw (le-ltb n 10 h) (ap (λ (j : ℕ). places j (ltb (n / 10) 10) (n / 10) + 1) same)
places_more zero n h p = elim p [ ]

-- a number from 10^j on, or 0 for j = 0, and below 10^(j + 1) has j + 1 digits
places_are : (k n j : ℕ) → n ≤ k → 10 ^ j ≤ max n 1 → n < 10 ^ suc j → places k (ltb n 10) n ≡ suc j
places_are k n zero f l h = places_one k n (omega arith)
places_are k n (suc j) f l h =
    let low : 10 ^ j * 10 ≤ max n 1 = rw (pow-suc 10 j) at l in
    let high : n < 10 ^ suc j * 10 = rw (pow-suc 10 (suc j)) at h in
    let some : 1 ≤ 10 ^ j = one-le-pow j 10 (omega arith) in
    let first : places (k - 1) (ltb (n / 10) 10) (n / 10) ≡ suc j = places_are (k - 1) (n / 10) j (omega arith) (omega arith) (omega arith) in
    omega (arith, places_more k n (omega arith) (omega arith), first)

pub length_decimal : (n j : ℕ) → 10 ^ j ≤ max n 1 → n < 10 ^ suc j → length (decimal n) ≡ suc j
unfolding decimal
length_decimal n j l h = length_digits 10 (places n (ltb n 10) n) n ∙ places_are n n j (omega arith) l h

-- a number below 10^(j + 1) has j + 1 digits at most
places_most : (k : ℕ) (t : Bool) (n j : ℕ) → ltb n 10 ≡ t → n < 10 ^ suc j → places k t n ≤ suc j
unfolding places
places_most zero t n j e h = omega arith
places_most (suc k) true n j e h = omega arith
places_most (suc k) false n zero e h = absurd (omega (arith, ltb-false n 10 e))
places_most (suc k) false n (suc j) e h =
    let less : n / 10 < 10 ^ suc j = (div-lt_iff_lt-mul {k = 10} {x = n} {y = 10 ^ suc j} (omega arith)).1 (rw (pow-suc 10 (suc j)) at h) in
    omega (arith, places_most k (ltb (n / 10) 10) (n / 10) j refl less)

pub decimal_fits : (n j : ℕ) → n < 10 ^ suc j → length (decimal n) ≤ suc j
unfolding decimal
decimal_fits n j h = rw (length_digits 10 (places n (ltb n 10) n) n) (places_most n (ltb n 10) n j refl h)

pub decimal_most : (n : ℕ) → n < 2 ^ 32 → length (decimal n) ≤ 10
decimal_most n h = decimal_fits n 9 (omega arith)

-- ---- places

pub length_right : (width n : ℕ) → length (decimal n) ≤ width → length (right width n) ≡ width
unfolding right
length_right width n h =
    length-append (replicate (width - length (decimal n)) space) (decimal n) ∙ omega (arith, length-replicate (width - length (decimal n)) space)

pub length_left : (width : ℕ) (t : List ℕ) → length t ≤ width → length (left width t) ≡ width
unfolding left
length_left width t h = length-append t (replicate (width - length t) space) ∙ omega (arith, length-replicate (width - length t) space)
