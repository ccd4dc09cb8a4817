-- The nearest note of a column: what `nearest` gives, and how it is known.
-- Assumes nothing.
use Rattle.std.specs.Prelude.{◌≡◌, Bool, cond, List, ℕ, zero, suc, ◌+◌, ◌≤◌, ◌<◌, leb, ℤ, pos, get_or, drop, Some, None, Ok}
use Rattle.std.specs.Prelude as Std
use Rattle.std.proofs.Math.Path.{refl}
use Rattle.std.proofs.Common.{sym, ◌∙◌, subst, le_refl, le_of_lt, lt_of_lt_of_le, lt_irrefl, drop_of_length-le, drop-cons}
use Rattle.std.proofs.Math.Bool.{true, false}
use Rattle.std.proofs.Math.Logic.{⊎_elim}
use Rattle.std.proofs.Math.Option.{Option, none, some}
use Rattle.std.proofs.Math.Numerals.{add-one}
use Rattle.std.proofs.Math.Nat.{le_trans}
use native.Mathlib.Omega.{arith}
use Rattle.std.proofs.Math.Dec.{ltb, eqb}
use Rattle.std.specs.Int.Signed.{le_z}
use Rattle.std.proofs.Math.ListN.{length}
use borrow.Author.Tests.{eqb-true, eqb-false, ltb-true, ltb-false, le-leb, lt-leb}
use Rattle.floats.specs.Ticks.{ticks}
use Rattle.chart.specs.declared.Note.{Note}
use Rattle.chart.specs.Time.{time}
use Rattle.floats.specs.Format.{infinity}
use Rattle.chart.specs.Laws.Times.{ticks_mono, le_or_lt}
use Rattle.exact_times.specs.Laws.Instants.{ticks_le, farther_after, farther_before, strictly_farther}
use Rattle.chart.specs.Chart.{notes_in, blank}
use Rattle.chart_lookup.specs.Lookup.{nothing, found, told}
use Rattle.chart_lookup.specs.Search.{Parts, Next, Following, Last}
use Rattle.chart.specs.Laws.Reader.{note_known}
use Rattle.chart_lookup.specs.Laws.Notes.{rise}
use Rattle.chart_lookup.specs.Nearest.{away, better, taken, nearest, placed}

module _ (column : ℕ) (t : ℤ) (best : Option (ℕ × ℕ)) (ns : List Note) (i : ℕ) where
  nearest_next : i < length ns → nearest column t best i (drop i ns) ≡ nearest column t (taken column t best i (get_or ns i blank)) (i + 1) (drop (i + 1) ns)
  unfolding nearest
  nearest_next l = rw (drop-cons ns i blank l, add-one i)

  nearest_end : length ns ≤ i → nearest column t best i (drop i ns) ≡ best
  unfolding nearest
  nearest_end l = rw (drop_of_length-le ns l)

pub one_more : (P : ℕ → Type 0) (k : ℕ) → ((q : ℕ) → q < k → P q) → P k → (q : ℕ) → q < k + 1 → P q
one_more P k before here q l = ⊎_elim (λ (h : k ≤ q). let e : q ≡ k = omega arith in subst P (sym e) here) (λ (h : q < k). before q h) (le_or_lt k q)

module _ (column : ℕ) (t : ℤ) (ns : List Note) where
  -- among the notes before k, that of the place j
  pub record Least (k j : ℕ) : Type 0 where
    pub there : j < k
    pub its_column : (get_or ns j blank).column ≡ column
    pub least : (q : ℕ) → q < k → (get_or ns q blank).column ≡ column → away t (get_or ns j blank) ≤ away t (get_or ns q blank)
    pub first : (q : ℕ) → q < j → (get_or ns q blank).column ≡ column → away t (get_or ns j blank) < away t (get_or ns q blank)

  abbrev pub UpTo : ℕ → Option (ℕ × ℕ) → Type 0
  UpTo k none = (q : ℕ) → q < k → (get_or ns q blank).column ≡ column → ⊥
  UpTo k (some b) = (b.1 ≡ away t (get_or ns b.0 blank)) × Least k b.0

  -- a note of another column changes nothing
  other : (k : ℕ) (best : Option (ℕ × ℕ)) → ((get_or ns k blank).column ≡ column → ⊥) → UpTo k best → UpTo (k + 1) best
  other k none differs u = one_more (λ q. (get_or ns q blank).column ≡ column → ⊥) k u differs
  other k (some b) differs u = (
    u.0,
    record {
      there = omega (arith, u.1.there);
      its_column = u.1.its_column;
      least = one_more (λ q. (get_or ns q blank).column ≡ column → away t (get_or ns b.0 blank) ≤ away t (get_or ns q blank)) k u.1.least (λ e. absurd (differs e));
      first = u.1.first;
    },
  )

  -- a note of the column is the best where there is none, or where it is strictly nearer
  new : (k : ℕ) → (get_or ns k blank).column ≡ column → ((q : ℕ) → q < k → (get_or ns q blank).column ≡ column → away t (get_or ns k blank) < away t (get_or ns q blank))
      → UpTo (k + 1) (some (k, away t (get_or ns k blank)))
  new k e nearer = (
    refl,
    record {
      there = omega arith;
      its_column = e;
      least = one_more (λ q. (get_or ns q blank).column ≡ column → away t (get_or ns k blank) ≤ away t (get_or ns q blank)) k (λ q l c. le_of_lt (nearer q l c)) (λ c. le_refl (away t (get_or ns k blank)));
      first = nearer;
    },
  )

  step_better : (k : ℕ) (best : Option (ℕ × ℕ)) → (get_or ns k blank).column ≡ column → UpTo k best → UpTo (k + 1) (better best k (away t (get_or ns k blank)))
  unfolding better
  step_better k none e u = new k e (λ q l c. absurd (u q l c))
  step_better k (some b) e u = by_test (ltb (away t (get_or ns k blank)) b.1) refl
    where
      by_test : (x : Bool) → ltb (away t (get_or ns k blank)) b.1 ≡ x → UpTo (k + 1) (cond x (some (k, away t (get_or ns k blank))) (some b))
      by_test true h = new k e (λ q l c. omega (arith, ltb-true (away t (get_or ns k blank)) b.1 h, u.0, u.1.least q l c))
      by_test false h = (
        u.0,
        record {
          there = omega (arith, u.1.there);
          its_column = u.1.its_column;
          least = one_more (λ q. (get_or ns q blank).column ≡ column → away t (get_or ns b.0 blank) ≤ away t (get_or ns q blank)) k u.1.least
              (λ c. omega (arith, ltb-false (away t (get_or ns k blank)) b.1 h, u.0));
          first = u.1.first;
        },
      )

  step : (k : ℕ) (best : Option (ℕ × ℕ)) → UpTo k best → UpTo (k + 1) (taken column t best k (get_or ns k blank))
  unfolding taken
  step k best u = by_test (eqb (get_or ns k blank).column column) refl
    where
      by_test : (x : Bool) → eqb (get_or ns k blank).column column ≡ x → UpTo (k + 1) (cond x (better best k (away t (get_or ns k blank))) best)
      by_test true h = step_better k best (eqb-true (get_or ns k blank).column column h) u
      by_test false h = other k best (eqb-false (get_or ns k blank).column column h) u

  through : (m k : ℕ) (best : Option (ℕ × ℕ)) → k + m ≡ length ns → UpTo k best → UpTo (length ns) (nearest column t best k (drop k ns))
  through zero k best e u = let same : k ≡ length ns = omega arith in rw (nearest_end column t best ns k (omega arith)) (subst (λ n. UpTo n best) same u)
  through (suc m) k best e u =
      rw (nearest_next column t best ns k (omega arith)) (through m (k + 1) (taken column t best k (get_or ns k blank)) (omega arith) (step k best u))

  pub all_notes : UpTo (length ns) (nearest column t none 0 ns)
  all_notes = through (length ns) 0 none (omega arith) (λ q l c. omega arith)

  -- there is one such place at most
  same : (k j : ℕ) → Least (length ns) k → Least (length ns) j → k ≡ j
  same k j a b =
      ⊎_elim
      (λ (h : k ≤ j).
      ⊎_elim (λ (g : j ≤ k). omega arith) (λ (g : k < j). absurd (apart (b.first k g a.its_column) (a.least j b.there b.its_column))) (le_or_lt j k))
      (λ (h : j < k). absurd (apart (a.first j h b.its_column) (b.least k a.there a.its_column)))
      (le_or_lt k j)
    where
      apart : {m n : ℕ} → m < n → n ≤ m → ⊥
      apart h k = omega arith

  -- so it is what the lookup gives
  pub is_nearest : (j : ℕ) → Least (length ns) j → placed (nearest column t none 0 ns) ≡ found j
  unfolding placed
  is_nearest j l = by_best (nearest column t none 0 ns) all_notes
    where
      by_best : (b : Option (ℕ × ℕ)) → UpTo (length ns) b → placed b ≡ found j
      by_best none u = absurd (u j l.there l.its_column)
      by_best (some b) u = rw (same b.0 j u.1 l)

  pub is_nothing : ((q : ℕ) → q < length ns → (get_or ns q blank).column ≡ column → ⊥) → placed (nearest column t none 0 ns) ≡ nothing
  unfolding placed
  is_nothing h = by_best (nearest column t none 0 ns) all_notes
    where
      by_best : (b : Option (ℕ × ℕ)) → UpTo (length ns) b → placed b ≡ nothing
      by_best none u = refl
      by_best (some b) u = absurd (h b.0 u.1.there u.1.its_column)

-- ---- the next note of the column from an instant on, and the last one before it

module _ (s : List ℕ) (column : ℕ) (t : ℤ) (a end next last : ℕ) (side : (p : ℕ) → p < infinity → leb a p ≡ le_z t (pos (ticks (time p))))
    (A : Parts (notes_in s) a end) (N : Next (notes_in s) column end next) (L : Last (notes_in s) column end last) where
  late : (j : ℕ) → end ≤ j → j < length (notes_in s) → le_z t (pos (ticks (time (get_or (notes_in s) j blank).start))) ≡ true
  late j h k = sym (side (get_or (notes_in s) j blank).start (note_known s j k).1.0) ∙ le-leb a (get_or (notes_in s) j blank).start (A.after j h k)

  early : (j : ℕ) → j < end → le_z t (pos (ticks (time (get_or (notes_in s) j blank).start))) ≡ false
  early j h = sym (side (get_or (notes_in s) j blank).start (note_known s j (omega (arith, A.within))).1.0) ∙ lt-leb a (get_or (notes_in s) j blank).start (A.before j h)

  later : (i j : ℕ) → i ≤ j → j < length (notes_in s) → ticks (time (get_or (notes_in s) i blank).start) ≤ ticks (time (get_or (notes_in s) j blank).start)
  later i j h k = ticks_le (get_or (notes_in s) i blank).start (get_or (notes_in s) j blank).start (rise s i j h k) (note_known s j k).1.0

  -- of the notes from the instant on the next is nearest, of those before it the last
  by_next : (q : ℕ) → end ≤ q → q < length (notes_in s) → (get_or (notes_in s) q blank).column ≡ column → (next ≤ q) × (away t (get_or (notes_in s) next blank) ≤ away t (get_or (notes_in s) q blank))
  unfolding away
  by_next q h k e =
      let l : next ≤ q = ⊎_elim (λ (m : next ≤ q). m) (λ (m : q < next). absurd (N.none_before q h m e)) (le_or_lt next q) in
      (l, farther_after (ticks (time (get_or (notes_in s) next blank).start)) (ticks (time (get_or (notes_in s) q blank).start)) t (late next N.late (omega arith)) (later next q l k))

  by_last : (m q : ℕ) → last ≡ suc m → q < end → (get_or (notes_in s) q blank).column ≡ column → (q ≤ m) × (away t (get_or (notes_in s) m blank) ≤ away t (get_or (notes_in s) q blank))
  unfolding away
  by_last m q e h c =
      let l : q ≤ m = ⊎_elim (λ (k : last ≤ q). absurd (L.none_after q k h c)) (λ (k : q < last). omega arith) (le_or_lt last q) in
      let k : m < end = omega (arith, L.within) in
      (l, farther_before (ticks (time (get_or (notes_in s) q blank).start)) (ticks (time (get_or (notes_in s) m blank).start)) t (early m k) (later q m l (omega (arith, A.within))))

  not_before : last ≡ 0 → (q : ℕ) → (get_or (notes_in s) q blank).column ≡ column → end ≤ q
  not_before z q e = ⊎_elim (λ (h : end ≤ q). h) (λ (h : q < end). absurd (L.none_after q (omega arith) h e)) (le_or_lt end q)

  -- no note of the column before the instant
  pub no_note : last ≡ 0 → length (notes_in s) ≤ next → (q : ℕ) → q < length (notes_in s) → (get_or (notes_in s) q blank).column ≡ column → ⊥
  no_note z h q k e = N.none_before q (not_before z q e) (omega arith) e

  pub only_next : last ≡ 0 → next < length (notes_in s) → Least column t (notes_in s) (length (notes_in s)) next
  only_next z h =
      record {
        there = h;
        its_column = N.there h;
        least = λ q k e. (by_next q (not_before z q e) k e).1;
        first = λ q k e. absurd (N.none_before q (not_before z q e) k e);
      }

  module _ (m : ℕ) (one : last ≡ suc m) where
    -- the next one is strictly nearer
    pub next_nearer : next < length (notes_in s) → away t (get_or (notes_in s) next blank) < away t (get_or (notes_in s) m blank) → Least column t (notes_in s) (length (notes_in s)) next
    next_nearer h n =
        record {
          there = h;
          its_column = N.there h;
          least = λ q k e. ⊎_elim (λ (l : end ≤ q). (by_next q l k e).1) (λ (l : q < end). le_of_lt (lt_of_lt_of_le n (by_last m q one l e).1)) (le_or_lt end q);
          first = λ q k e. ⊎_elim (λ (l : end ≤ q). absurd (N.none_before q l k e)) (λ (l : q < end). lt_of_lt_of_le n (by_last m q one l e).1) (le_or_lt end q);
        }

    -- it is not; and of the notes that start with the last one `first` is the first of the column
    pub last_nearer : (equal first : ℕ) → (next < length (notes_in s) → away t (get_or (notes_in s) m blank) ≤ away t (get_or (notes_in s) next blank))
        → Parts (notes_in s) (get_or (notes_in s) m blank).start equal → Next (notes_in s) column equal first → Least column t (notes_in s) (length (notes_in s)) first
    unfolding away
    last_nearer equal first n E F =
        let inside : m < end = omega (arith, L.within) in
        let below : m < length (notes_in s) = omega (arith, A.within) in
        let from : equal ≤ m = ⊎_elim (λ (h : equal ≤ m). h) (λ (h : m < equal). absurd (lt_irrefl (get_or (notes_in s) m blank).start (E.before m h))) (le_or_lt equal m) in
        let upto : first ≤ m = ⊎_elim (λ (h : first ≤ m). h) (λ (h : m < first). absurd (F.none_before m from h (L.there m one))) (le_or_lt first m) in
        let down : (get_or (notes_in s) m blank).start ≤ (get_or (notes_in s) first blank).start = E.after first F.late (omega arith) in
        let up : (get_or (notes_in s) first blank).start ≤ (get_or (notes_in s) m blank).start = rise s first m upto below in
        let same : (get_or (notes_in s) first blank).start ≡ (get_or (notes_in s) m blank).start = omega arith in
        record {
          there = omega arith;
          its_column = F.there (omega arith);
          least = λ q k e. rw same (⊎_elim (λ (l : end ≤ q). let b = by_next q l k e in le_trans (n (omega (arith, b.0))) b.1) (λ (l : q < end). (by_last m q one l e).1) (le_or_lt end q));
          first = λ q k e. rw same (strictly_farther (ticks (time (get_or (notes_in s) q blank).start)) (ticks (time (get_or (notes_in s) m blank).start)) t (early m inside)
              (ticks_mono (get_or (notes_in s) q blank).start (get_or (notes_in s) m blank).start (E.before q (not_between equal first F q k e)) (note_known s m below).1.0));
        }
      where
        not_between : (equal first : ℕ) → Next (notes_in s) column equal first → (q : ℕ) → q < first → (get_or (notes_in s) q blank).column ≡ column → q < equal
        not_between equal first F q k e = ⊎_elim (λ (h : equal ≤ q). absurd (F.none_before q h k e)) (λ (h : q < equal). h) (le_or_lt equal q)

-- ---- what the code answers

-- the next note of the column from a place on, where that is the nearest one
pub settled : (column : ℕ) (t : ℤ) (ns : List Note) (i : ℕ) (o : Std.Option ℕ) → Following ns column i o → ((k : ℕ) → Next ns column i k → Least column t ns (length ns) k)
    → told (Ok o) ≡ placed (nearest column t none 0 ns)
settled column t ns i (Some k) N least = sym (is_nearest column t ns k (least k N.1))
settled column t ns i None N least = absurd (lt_irrefl (length ns) (least (length ns) N).there)

module _ (s : List ℕ) (column : ℕ) (t : ℤ) (a end : ℕ) (side : (p : ℕ) → p < infinity → leb a p ≡ le_z t (pos (ticks (time p)))) (A : Parts (notes_in s) a end) where
  -- no note of the column before the instant
  pub without_last : (last : ℕ) → Last (notes_in s) column end last → last ≡ 0 → (o : Std.Option ℕ) → Following (notes_in s) column end o
      → told (Ok o) ≡ placed (nearest column t none 0 (notes_in s))
  without_last last L z (Some k) N = sym (is_nearest column t (notes_in s) k (only_next s column t a end k last side A N.1 L z N.0))
  without_last last L z None N = sym (is_nothing column t (notes_in s) (no_note s column t a end (length (notes_in s)) last side A N L z (le_refl (length (notes_in s)))))
