-- The notes that are asked for, by where their starts lie: those that start within two times follow one another, and no hold that covers an
-- instant starts after it.
-- Assumes nothing.
use Rattle.std.specs.Prelude.{◌≡◌, true, false, ◌&&◌, List, ℕ, ◌+◌, ◌-◌, ◌≤◌, ◌<◌, T, leb, ltb, Float, length, get_or, Option, Some, None, unwrap_or, MatchOption}
use Rattle.std.proofs.Common.{sym, ap, ◌∙◌, ⊎_elim, zero-add, arith, le-leb, lt-ltb, le-ltb}
use Rattle.std.proofs.Math.Bool.{and-false}
use Rattle.std.specs.Float.{binary64}
use Rattle.std.specs.Float.Ieee.{fits}
use Rattle.std.specs.Float.Ieee.Scale.{finite}
use Rattle.std.proofs.lemmas.Bool.{lt-leb}
use Rattle.chart.specs.Laws.Times.{le_or_lt}
use Rattle.exact_times.specs.Instants.{covers_at, FirstAt, FirstAfter}
use Rattle.exact_times.specs.Laws.Instants.{le_instant, instant_le}
use Rattle.chart.specs.Chart.{notes_in, blank}
use Rattle.chart_lookup.specs.Lookup.{Starting, Covering, wanted, places}
use Rattle.chart_lookup.specs.Search.{Parts, NoneFrom, run, held_from}
use Rattle.chart.specs.Laws.Reader.{note_known}
use Rattle.chart_lookup.specs.Laws.Places.{places_skip, places_none, places_run}

module _ (s : List ℕ) (from to : Float) (fit_from : T (fits binary64 from)) (fit_to : T (fits binary64 to)) (ok_from : finite from ≡ true) (ok_to : finite to ≡ true)
    (a b first end : ℕ) (at_from : FirstAt from a) (after_to : FirstAfter to b) (A : Parts (notes_in s) a first) (B : Parts (notes_in s) b end) where
  -- whether a note is asked for, by its start's bit pattern
  by_pattern : (j : ℕ) → j < length (notes_in s)
      → wanted (Starting from to) (get_or (notes_in s) j blank) ≡ leb a (get_or (notes_in s) j blank).start && ltb (get_or (notes_in s) j blank).start b
  unfolding wanted FirstAt FirstAfter
  by_pattern j l =
      let k = (note_known s j l).1.0 in
      rw (le_instant from fit_from ok_from (get_or (notes_in s) j blank).start k, instant_le to fit_to ok_to (get_or (notes_in s) j blank).start k, at_from (get_or (notes_in s) j blank).start k, after_to (get_or (notes_in s) j blank).start k)

  too_early : (j : ℕ) → j < first → wanted (Starting from to) (get_or (notes_in s) j blank) ≡ false
  too_early j h = by_pattern j (omega (arith, A.within)) ∙ rw (lt-leb a (get_or (notes_in s) j blank).start (A.before j h))

  too_late : NoneFrom (wanted (Starting from to)) (notes_in s) end
  too_late j h k = by_pattern j k ∙ rw (le-ltb (get_or (notes_in s) j blank).start b (B.after j h k)) (and-false (leb a (get_or (notes_in s) j blank).start))

  in_time : (j : ℕ) → first ≤ j → j < end → wanted (Starting from to) (get_or (notes_in s) j blank) ≡ true
  in_time j h k =
      let l : j < length (notes_in s) = omega (arith, B.within) in
      by_pattern j l ∙ rw (le-leb a (get_or (notes_in s) j blank).start (A.after j h l), lt-ltb (get_or (notes_in s) j blank).start b (B.before j k))

  pub none_between : end ≤ first → length (places (wanted (Starting from to)) 0 (notes_in s)) ≡ 0
  none_between h =
      ap (λ (ps : List ℕ). length ps)
      (places_none (wanted (Starting from to)) (notes_in s) 0 (omega arith)
      (λ j l k. ⊎_elim (λ (m : end ≤ j). too_late j m k) (λ (m : j < end). too_early j (omega arith)) (le_or_lt end j)))

  pub all_between : first < end → places (wanted (Starting from to)) 0 (notes_in s) ≡ run first (end - first)
  all_between h =
      let e : first + (end - first) ≡ end = omega arith in
      rw (zero-add first) at (places_skip (wanted (Starting from to)) (notes_in s) first 0 (omega (arith, A.within)) (λ j l k. too_early j (omega arith)))
      ∙ places_run (wanted (Starting from to)) (notes_in s) (end - first) first (omega (arith, B.within)) (λ j l k. in_time j l (omega arith)) (rw e too_late)

pub none_covers : (s : List ℕ) (at : Float) (b end : ℕ) → FirstAfter at b → Parts (notes_in s) b end → NoneFrom (wanted (Covering at)) (notes_in s) end
unfolding wanted covers_at FirstAfter
none_covers s at b end h B j l k =
    rw (sym (h (get_or (notes_in s) j blank).start (note_known s j k).1.0) ∙ le-ltb (get_or (notes_in s) j blank).start b (B.after j l k)) (and-false (get_or (notes_in s) j blank).hold)

-- the first hold that covers an instant, as a search of the places before one finds it: those from it on are all
pub first_held : (s : List ℕ) (at : Float) (end : ℕ) → end ≤ length (notes_in s) → (o : Option ℕ)
    → MatchOption o ((k : ℕ) → 0 ≤ k → k < end → wanted (Covering at) (get_or (notes_in s) k blank) ≡ false)
    (λ i. (0 ≤ i) × (i < end) × (wanted (Covering at) (get_or (notes_in s) i blank) ≡ true) × ((k : ℕ) → 0 ≤ k → k < i → wanted (Covering at) (get_or (notes_in s) k blank) ≡ false))
    → (unwrap_or o end ≤ end) × (held_from at (unwrap_or o end) s ≡ held_from at 0 s)
first_held s at end l (Some i) f =
    (omega (arith, f.1), sym (rw (zero-add i) at (places_skip (wanted (Covering at)) (notes_in s) i 0 (omega (arith, f.1)) (λ j a b. f.3 j a (omega arith)))))
first_held s at end l None f = (omega arith, sym (rw (zero-add end) at (places_skip (wanted (Covering at)) (notes_in s) end 0 (omega arith) (λ j a b. f j a (omega arith)))))
