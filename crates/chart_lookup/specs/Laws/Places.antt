-- Places of notes from an index on, and the answers of a list lookup.
-- Assumes nothing.
use Rattle.std.specs.Prelude.{◌≡◌, refl, Bool, true, false, get_or, set}
use Rattle.std.proofs.Math.Path.{sym, ap, ap₂}
use Rattle.std.proofs.Common.{◌∙◌, length-append, length-set, take-append-drop, drop_of_length-le, drop-cons, drop-drop, drop-set-lt, length-take-le, take-suc-set, le-leb}
use mathlib.Core.List.{List, [], ◌∷◌, ◌++◌, append_assoc, append-nil}
use Prim.Native.Nat.{ℕ, zero, suc, ◌+◌, ◌-◌, ◌≤◌, ◌<◌}
use Rattle.std.proofs.Math.Numerals.{add-one}
use native.Mathlib.Omega.{arith}
use Rattle.std.proofs.Math.ListN.{length, take, drop}
use Rattle.std.proofs.lemmas.Bool.{lt-leb}
use Rattle.rules.specs.Numbers as Numbers
use Rattle.chart.specs.declared.Note.{Note}
use Rattle.chart.specs.Chart.{blank}
use Rattle.chart_lookup.specs.Lookup.{refused, nothing, found, places, filled, counted, given}
use Rattle.chart_lookup.specs.Search.{NoneFrom, run}

-- ---- places from an index on

module _ (p : Note → Bool) (ns : List Note) (i : ℕ) where
  pub places_yes : i < length ns → p (get_or ns i blank) ≡ true → places p i (drop i ns) ≡ i ∷ places p (i + 1) (drop (i + 1) ns)
  unfolding places
  places_yes l h = rw (drop-cons ns i blank l, add-one i, h)

  pub places_no : i < length ns → p (get_or ns i blank) ≡ false → places p i (drop i ns) ≡ places p (i + 1) (drop (i + 1) ns)
  unfolding places
  places_no l h = rw (drop-cons ns i blank l, add-one i, h)

  pub places_end : length ns ≤ i → places p i (drop i ns) ≡ []
  unfolding places
  places_end l = rw (drop_of_length-le ns l)

-- ---- places where the notes of a stretch pass a test, or fail it

module _ (p : Note → Bool) (ns : List Note) where
  -- none of k notes
  pub places_skip : (k i : ℕ) → i + k ≤ length ns → ((j : ℕ) → i ≤ j → j < i + k → p (get_or ns j blank) ≡ false)
      → places p i (drop i ns) ≡ places p (i + k) (drop (i + k) ns)
  places_skip zero i l h = let e : i + zero ≡ i = omega arith in rw e
  places_skip (suc k) i l h =
      let e : i + suc k ≡ i + 1 + k = omega arith in
      rw e (places_no p ns i (omega arith) (h i (omega arith) (omega arith)) ∙ places_skip k (i + 1) (omega arith) (λ j m n. h j (omega arith) (omega arith)))

  -- none from a place on
  pub places_none : (i : ℕ) → i ≤ length ns → NoneFrom p ns i → places p i (drop i ns) ≡ []
  places_none i l h =
      let k : ℕ = length ns - i in
      places_skip k i (omega arith) (λ j m n. h j m (omega arith)) ∙ places_end p ns (i + k) (omega arith)

  -- k notes, and none after them
  pub places_run : (k i : ℕ) → i + k ≤ length ns → ((j : ℕ) → i ≤ j → j < i + k → p (get_or ns j blank) ≡ true) → NoneFrom p ns (i + k)
      → places p i (drop i ns) ≡ run i k
  unfolding run
  places_run zero i l pass NoneMore = let z : i + zero ≡ i = omega arith in places_none i (omega arith) (rw z at NoneMore)
  places_run (suc k) i l pass NoneMore =
      let z : i + suc k ≡ i + 1 + k = omega arith in
      places_yes p ns i (omega arith) (pass i (omega arith) (omega arith))
      ∙ ap (λ (t : List ℕ). i ∷ t) (places_run k (i + 1) (omega arith) (λ j m n. pass j (omega arith) (omega arith)) (rw z at NoneMore) ∙ rw (add-one i))

pub length_run : (i k : ℕ) → length (run i k) ≡ k
unfolding run
length_run i zero = refl
length_run i (suc k) = ap suc (length_run (suc i) k)

pub run_next : (i n k : ℕ) → k < n → run (i + k) (n - k) ≡ (i + k) ∷ run (i + (k + 1)) (n - (k + 1))
unfolding run
run_next i n k h = let e : n - k ≡ suc (n - (k + 1)) = omega arith in let d : i + (k + 1) ≡ suc (i + k) = omega arith in rw (e, d)

pub run_end : (i n k : ℕ) → n ≤ k → run i (n - k) ≡ []
unfolding run
run_end i n k h = let e : n - k ≡ 0 = omega arith in rw e

-- ---- the answers

pub none_found : (ps list : List ℕ) → length ps ≡ 0 → (nothing, list) ≡ given ps list
unfolding given counted filled
none_found [] list e = rw (le-leb 0 (length list) (omega arith))
none_found (p ∷ ps) list e = absurd (omega arith)

pub too_many : (ps list : List ℕ) → length list < length ps → (refused Numbers.list_too_short, list) ≡ given ps list
unfolding given
too_many ps list l = rw (lt-leb (length ps) (length list) l)

pub some_found : (ps list : List ℕ) → length ps ≤ length list → (length ps ≡ 0 → ⊥) → (found (length ps), filled ps list) ≡ given ps list
unfolding given counted
some_found [] list l h = absurd (h refl)
some_found (p ∷ ps) list l h = rw (le-leb (length (p ∷ ps)) (length list) l)

-- ---- places written one after another: k of them stand at the start of the list l, those of qs are left, and later entries are those of m

pub record Wrote (ps l m : List ℕ) (k : ℕ) (qs : List ℕ) : Type 0 where
  pub within : k ≤ length l
  pub long : length l ≡ length m
  pub all : take k l ++ qs ≡ ps
  pub kept : drop k l ≡ drop k m

pub wrote_none : (ps m : List ℕ) → Wrote ps m m 0 ps
wrote_none ps m = record { within = omega arith; long = refl; all = refl; kept = refl }

module _ (ps l m : List ℕ) (k : ℕ) where
  pub wrote_size : (qs : List ℕ) → Wrote ps l m k qs → k + length qs ≡ length ps
  wrote_size qs w = omega (arith, simp length-append at (ap length w.all), length-take-le k l w.within)

  pub wrote_next : (i : ℕ) (qs : List ℕ) → length ps ≤ length m → Wrote ps l m k (i ∷ qs) → Wrote ps (set l k i) m (k + 1) qs
  wrote_next i qs fits w =
      let room : k < length l = omega (arith, wrote_size (i ∷ qs) w, w.long) in
      record {
        within = rw (length-set l k i) (omega arith);
        long = length-set l k i ∙ w.long;
        all = rw (add-one k, take-suc-set l k i room) (append_assoc (take k l) (i ∷ []) qs ∙ w.all);
        kept = rw (add-one k, drop-set-lt (suc k) l k i (omega arith), ← (add-one k), ← (drop-drop 1 k l), ← (drop-drop 1 k m), w.kept);
      }

  pub wrote_all : Wrote ps l m k [] → l ≡ filled ps m
  unfolding filled
  wrote_all w =
      let first : take k l ≡ ps = sym (append-nil (take k l)) ∙ w.all in
      let size : k ≡ length ps = sym (length-take-le k l w.within) ∙ ap length first in
      sym (take-append-drop k l) ∙ ap₂ (λ (x y : List ℕ). x ++ y) first (w.kept ∙ ap (λ (n : ℕ). drop n m) size)

  -- all are written once there are as many
  pub wrote_full : (qs : List ℕ) → Wrote ps l m k qs → length ps ≤ k → l ≡ filled ps m
  wrote_full [] w h = wrote_all w
  wrote_full (q ∷ qs) w h = absurd (omega (arith, wrote_size (q ∷ qs) w))
