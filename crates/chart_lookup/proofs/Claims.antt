-- The claims on the lookups hold of any bytes.
-- Assumes nothing.
use mathlib.Core.Path.{◌≡◌, refl, sym, ap, ◌∙◌, subst}
use mathlib.Core.Bool.{Bool, true, false, cond}
use mathlib.Core.Logic.{inl, inr, ⊎_elim}
use mathlib.Core.List.{List, [], ◌∷◌}
use mathlib.Core.Option.{Option, none, some}
use Prim.Native.Nat.{ℕ, zero, suc, ◌+◌, ◌≤◌, ◌<◌}
use native.Mathlib.Nat.{le_trans, zero-add}
use native.Mathlib.Omega.{arith}
use lib.Dec.{leb}
use lib.ListN.{length, get_or}
use lib.Ieee.{Float}
use lib.Ieee.Scale.{finite}
use borrow.Author.Tests.{lt-ltb}
use Rattle.floats.specs.Ticks.{ticks}
use Rattle.rules.specs.Numbers as Numbers
use Rattle.chart.specs.declared.Note.{Note}
use Rattle.chart.specs.Time.{time}
use Rattle.chart.specs.Tests.{either_way, never}
use Rattle.chart.specs.Chart.{Score, decode, blank}
use Rattle.chart.specs.Laws.Times.{le_or_lt}
use Rattle.chart.specs.Laws.Reader.{columns_few, notes_ok, notes_times}
use Rattle.exact_times.specs.Instants.{instant, distance}
use Rattle.exact_times.specs.Laws.Instants.{ticks_le}
use Rattle.chart_lookup.specs.Lookup.{Wanted, Outcome, refused, nothing, found, times_ok, wanted, places, filled, counted, given, listed, looked, listing}
use Rattle.chart_lookup.specs.Nearest.{away, nearest, placed, seeking, sought_in, sought}
use Rattle.chart_lookup.specs.Laws.Notes.{starts_rise}
use Rattle.chart_lookup.specs.Laws.Places.{none_found}
use Rattle.chart_lookup.proofs.Laws.Nearest.{Least, UpTo, all_notes, is_nothing}
use Rattle.chart_lookup.specs.Claims.{Rising, In, Lists, NearestIn, Claims}

-- ---- lists of places

lower : (k l : ℕ) (ps : List ℕ) → k ≤ l → Rising l ps → Rising k ps
unfolding Rising
lower k l [] h r = tt
lower k l (p ∷ ps) h r = (le_trans h r.0, r.1)

module _ (p : Note → Bool) where
  rise_next : (i : ℕ) (t : Bool) (ps : List ℕ) → Rising (suc i) ps → Rising i (cond t (i ∷ ps) ps)
  unfolding Rising
  rise_next i true ps r = (omega arith, r)
  rise_next i false ps r = lower i (suc i) ps (omega arith) r

  places_rise : (i : ℕ) (ns : List Note) → Rising i (places p i ns)
  unfolding Rising places
  places_rise i [] = tt
  places_rise i (n ∷ ns) = rise_next i (p n) (places p (suc i) ns) (places_rise (suc i) ns)

  -- a place in the list is that of a note that is asked for
  abbrev Asked : ℕ → List Note → ℕ → Type 0
  Asked i ns j = (k : ℕ) × ((j ≡ i + k) × ((k < length ns) × (p (get_or ns k blank) ≡ true)))

  in_next : (i j : ℕ) (n : Note) (ns : List Note) (t : Bool) (ps : List ℕ) → p n ≡ t → (In j ps → Asked (suc i) ns j) → In j (cond t (i ∷ ps) ps) → Asked i (n ∷ ns) j
  unfolding In
  in_next i j n ns t ps e rest h = by_test t e h
    where
      later : In j ps → Asked i (n ∷ ns) j
      later h = let r = rest h in (suc r.0, (omega (arith, r.1.0), (omega (arith, r.1.1.0), r.1.1.1)))

      by_test : (t : Bool) → p n ≡ t → In j (cond t (i ∷ ps) ps) → Asked i (n ∷ ns) j
      by_test true e h = ⊎_elim (λ (q : j ≡ i). (0, (omega arith, (omega arith, e)))) later h
      by_test false e h = later h

  in_places : (i : ℕ) (ns : List Note) (j : ℕ) → In j (places p i ns) → Asked i ns j
  unfolding places In
  in_places i [] j h = absurd h
  in_places i (n ∷ ns) j h = in_next i j n ns (p n) (places p (suc i) ns) refl (λ r. in_places (suc i) ns j r) h

  -- and each such note's place is in it
  in_later : (i j : ℕ) (t : Bool) (ps : List ℕ) → In j ps → In j (cond t (i ∷ ps) ps)
  unfolding In
  in_later i j true ps h = inr h
  in_later i j false ps h = h

  places_in : (i : ℕ) (ns : List Note) (k : ℕ) → k < length ns → p (get_or ns k blank) ≡ true → In (i + k) (places p i ns)
  unfolding places In
  places_in i [] k l h = absurd (omega arith)
  places_in i (n ∷ ns) zero l h = rw h (inl (omega arith))
  places_in i (n ∷ ns) (suc k) l h =
      let e : i + suc k ≡ suc i + k = omega arith in
      in_later i (i + suc k) (p n) (places p (suc i) ns) (rw e (places_in (suc i) ns k (omega arith) h))

-- ---- the answers of the lookups

less_equal : {m n : ℕ} → m < n → m ≡ n → ⊥
less_equal h e = omega arith

-- a list lookup finds nothing exactly where no note is asked for
given_none : (ps list : List ℕ) → (given ps list).0 ≡ nothing → ps ≡ []
unfolding given counted
given_none [] list e = refl
given_none (p ∷ ps) list e = by_test (leb (length (p ∷ ps)) (length list)) e
  where
    by_test : (x : Bool) → (cond {A = Outcome × List ℕ} x (found (length (p ∷ ps)), filled (p ∷ ps) list) (refused 19, list)).0 ≡ nothing → p ∷ ps ≡ []
    by_test true e = absurd (let z : ◌≡◌ {A = ℕ} 0 1 = cc in omega arith)
    by_test false e = absurd (let z : ◌≡◌ {A = ℕ} 0 1 = cc in omega arith)

none_in : (p : Note → Bool) (ns : List Note) → ((k : ℕ) → k < length ns → p (get_or ns k blank) ≡ false) → (ps : List ℕ) → places p 0 ns ≡ ps → ps ≡ []
unfolding In
none_in p ns h [] e = refl
none_in p ns h (q ∷ ps) e = let r = in_places p 0 ns q (rw e (inl refl)) in absurd (never r.1.1.1 (h r.0 r.1.1.0))

module _ (s : List ℕ) (c : Score) (read : decode s ≡ some c) (w : Wanted) (list : List ℕ) (ok : times_ok w ≡ true) where
  is_given_law : listing s w list ≡ given (places (wanted w) 0 c.notes) list
  unfolding listing looked listed
  is_given_law = rw (read, ok)

  list_nothing : (listing s w list).0 ≡ nothing → (k : ℕ) → k < length c.notes → wanted w (get_or c.notes k blank) ≡ false
  unfolding In
  list_nothing e k l =
      ⊎_elim
      (λ (h : wanted w (get_or c.notes k blank) ≡ true). absurd (rw (given_none (places (wanted w) 0 c.notes) list (rw is_given_law at e)) at (places_in (wanted w) 0 c.notes k l h)))
      (λ h. h) (either_way (wanted w (get_or c.notes k blank)))

  nothing_listed : ((k : ℕ) → k < length c.notes → wanted w (get_or c.notes k blank) ≡ false) → listing s w list ≡ (nothing, list)
  nothing_listed h = is_given_law ∙ sym (none_found (places (wanted w) 0 c.notes) list (ap length (none_in (wanted w) c.notes h (places (wanted w) 0 c.notes) refl)))

module _ (s : List ℕ) (c : Score) (read : decode s ≡ some c) (column : ℕ) (t : Float) (ok : finite t ≡ true) (on : column < c.columns) where
  is_placed : sought s column t ≡ placed (nearest column (instant t) none 0 c.notes)
  unfolding sought sought_in seeking
  is_placed = rw (read, ok, lt-ltb column c.columns on)

  least_in : (j : ℕ) → Least column (instant t) c.notes (length c.notes) j → NearestIn c.notes column (instant t) j
  unfolding away
  least_in j r =
      record {
        there = r.there;
        its_column = r.its_column;
        least = r.least;
        earlier = λ q l e d.
            ticks_le (get_or c.notes j blank).start (get_or c.notes q blank).start (starts_rise c.columns (omega (arith, columns_few s c read)) 0 c.notes (notes_ok s c read) j q (no_later q e d) l)
            (notes_times c.columns 0 c.notes (notes_ok s c read) q blank l).0;
        first = λ q e d. no_later q e (ap (λ (b : ℕ). distance (ticks (time b)) (instant t)) d);
      }
    where
      no_later : (q : ℕ) → (get_or c.notes q blank).column ≡ column → away (instant t) (get_or c.notes j blank) ≡ away (instant t) (get_or c.notes q blank) → j ≤ q
      no_later q e d = ⊎_elim (λ (h : j ≤ q). h) (λ (h : q < j). absurd (less_equal (r.first q h e) d)) (le_or_lt j q)

  nearest_found : (j : ℕ) → sought s column t ≡ found j → NearestIn c.notes column (instant t) j
  unfolding placed
  nearest_found j e = by_best (nearest column (instant t) none 0 c.notes) (all_notes column (instant t) c.notes) (sym is_placed ∙ e)
    where
      by_best : (b : Option (ℕ × ℕ)) → UpTo column (instant t) c.notes (length c.notes) b → placed b ≡ found j → NearestIn c.notes column (instant t) j
      by_best none u e = absurd (let z : ◌≡◌ {A = ℕ} 0 1 = cc in omega arith)
      by_best (some b) u e = let same : b.0 ≡ j = cc in least_in j (subst (λ (k : ℕ). Least column (instant t) c.notes (length c.notes) k) same u.1)

  -- nothing is found exactly where the column has no note
  nearest_nothing : sought s column t ≡ nothing → (q : ℕ) → q < length c.notes → (get_or c.notes q blank).column ≡ column → ⊥
  unfolding placed
  nearest_nothing e = by_best (nearest column (instant t) none 0 c.notes) (all_notes column (instant t) c.notes) (sym is_placed ∙ e)
    where
      by_best : (b : Option (ℕ × ℕ)) → UpTo column (instant t) c.notes (length c.notes) b → placed b ≡ nothing
          → (q : ℕ) → q < length c.notes → (get_or c.notes q blank).column ≡ column → ⊥
      by_best none u e = u
      by_best (some b) u e = absurd (let z : ◌≡◌ {A = ℕ} 0 1 = cc in omega arith)

  nothing_nearest : ((q : ℕ) → q < length c.notes → (get_or c.notes q blank).column ≡ column → ⊥) → sought s column t ≡ nothing
  nothing_nearest h = is_placed ∙ is_nothing column (instant t) c.notes h

-- ---- all of them

not_refused : (ps : List ℕ) (n : ℕ) → counted ps ≡ refused n → ⊥
unfolding counted
not_refused [] n e = let z : ◌≡◌ {A = ℕ} 0 1 = cc in omega arith
not_refused (p ∷ ps) n e = let z : ◌≡◌ {A = ℕ} 0 1 = cc in omega arith

given_untouched : (ps list : List ℕ) (n : ℕ) → (given ps list).0 ≡ refused n → (given ps list).1 ≡ list
unfolding given
given_untouched ps list n e = by_test (leb (length ps) (length list)) e
  where
    by_test : (x : Bool) → (cond {A = Outcome × List ℕ} x (counted ps, filled ps list) (refused 19, list)).0 ≡ refused n
        → (cond {A = Outcome × List ℕ} x (counted ps, filled ps list) (refused 19, list)).1 ≡ list
    by_test true e = absurd (not_refused ps n e)
    by_test false e = refl

listed_untouched : (w : Wanted) (ns : List Note) (list : List ℕ) (n : ℕ) → (listed w ns list).0 ≡ refused n → (listed w ns list).1 ≡ list
unfolding listed
listed_untouched w ns list n e = by_test (times_ok w) e
  where
    by_test : (x : Bool) → (cond {A = Outcome × List ℕ} x (given (places (wanted w) 0 ns) list) (refused Numbers.times, list)).0 ≡ refused n
        → (cond {A = Outcome × List ℕ} x (given (places (wanted w) 0 ns) list) (refused Numbers.times, list)).1 ≡ list
    by_test true e = given_untouched (places (wanted w) 0 ns) list n e
    by_test false e = refl

looked_untouched : (o : Option Score) (w : Wanted) (list : List ℕ) (n : ℕ) → (looked o w list).0 ≡ refused n → (looked o w list).1 ≡ list
unfolding looked
looked_untouched none w list n e = refl
looked_untouched (some c) w list n e = listed_untouched w c.notes list n e

lists : (w : Wanted) (ns : List Note) → Lists w ns (places (wanted w) 0 ns)
lists w ns =
    record {
      rising = places_rise (wanted w) 0 ns;
      only = λ j h.
          let r = in_places (wanted w) 0 ns j h in
          let same : r.0 ≡ j = omega (arith, r.1.0) in
          (omega (arith, r.1.1.0), rw same at r.1.1.1);
      all = λ j l h. rw zero-add at (places_in (wanted w) 0 ns j l h);
    }

pub claims : (s : List ℕ) → Claims s
unfolding listing
claims s =
    record {
      untouched = λ w list n e. looked_untouched (decode s) w list n e;
      listed = λ c read w ok list. (places (wanted w) 0 c.notes, (lists w c.notes, is_given_law s c read w list ok));
      list_nothing = λ c read w ok list e. list_nothing s c read w list ok e;
      nothing_listed = λ c read w ok list h. nothing_listed s c read w list ok h;
      nearest = λ c read column on t ok j e. nearest_found s c read column t ok on j e;
      nearest_nothing = λ c read column on t ok e. nearest_nothing s c read column t ok on e;
      nothing_nearest = λ c read column on t ok h. nothing_nearest s c read column t ok on h;
    }
