-- What the writer writes is read: notes that may each stand alone in a chart may stand there together once they are in order.
-- Assumes nothing.
use Rattle.std.specs.Prelude.{◌≡◌, refl, true, false, List, [], ◌∷◌, ℕ, ◌+◌, ◌^◌, ◌≤◌, ◌<◌, T, length, Float, Option}
use Rattle.std.proofs.Math.Path.{sym}
use Rattle.std.proofs.Common.{◌∙◌, zero-add, arith, le-leb, lt-ltb}
use Rattle.std.proofs.Math.Option.{some}
use Rattle.std.proofs.Math.Nat.{add-zero}
use Rattle.std.specs.Float.{binary64}
use Rattle.std.specs.Float.Ieee.{fits, to_bits}
use Rattle.floats.specs.Ticks.{ticks}
use Rattle.floats.specs.Laws.Values.{Sized}
use Rattle.rules.specs.Each.{Each}
use Rattle.chart.specs.declared.Version.{Version}
use Rattle.chart.specs.declared.Note.{Note}
use Rattle.chart.specs.Tests.{passes}
use Rattle.chart.specs.Laws.Times.{ticks_zero, time_below, time_to_bits, to_bits_time}
use Rattle.chart.specs.Time.{latest}
use Rattle.chart.specs.Chart.{Tells, encode, decode, lasts, note_tests, ok_note, ok_notes}
use Rattle.chart.specs.Laws.Reader.{first_rank, note_decided}
use Rattle.chart.specs.Order.{rank, arranged}
use Rattle.chart.specs.RoundTrip.{decode_encode}
use Rattle.chart.specs.Laws.Order.{Rising, length_arranged, each_arranged, sorted}

-- ---- the notes that the rules make, by their floats

module _ (columns c : ℕ) (o : Option ℕ) (on : c < columns) (x : Float) (fx : T (fits binary64 x)) (vx : Sized x) where
  pub circle_ok : ticks x ≤ latest → ok_note columns 0 (record { column = c; hold = false; origin = o; start = to_bits binary64 x; duration = 0 }) ≡ true
  unfolding lasts
  circle_ok end =
      sym (note_decided columns 0 _ (lt-ltb c columns on) (to_bits_time x fx vx) (time_below 0 (omega arith)) (first_rank _) refl)
      ∙ rw (time_to_bits x fx, ticks_zero, add-zero (ticks x)) (le-leb (ticks x) latest end)

  pub hold_ok : (d : Float) → T (fits binary64 d) → Sized d → 0 < ticks d → ticks x + ticks d ≤ latest
      → ok_note columns 0 (record { column = c; hold = true; origin = o; start = to_bits binary64 x; duration = to_bits binary64 d }) ≡ true
  unfolding lasts
  hold_ok d fd vd lasting end =
      sym (note_decided columns 0 _ (lt-ltb c columns on) (to_bits_time x fx vx) (to_bits_time d fd vd) (first_rank _) (rw (time_to_bits d fd) (lt-ltb 0 (ticks d) lasting)))
      ∙ rw (time_to_bits x fx, time_to_bits d fd) (le-leb (ticks x + ticks d) latest end)

-- ---- in order

-- a note may stand first in a chart of c columns
abbrev pub Alone : ℕ → Note → Type 0
Alone c n = ok_note c 0 n ≡ true

-- a note that may stand first may stand after any note whose rank is not above its own
note_after : (c l : ℕ) (n : Note) → ok_note c 0 n ≡ true → l ≤ rank n → ok_note c l n ≡ true
unfolding ok_note note_tests
note_after c l n h k = let p = passes (note_tests c 0 n) h in sym (note_decided c l n (p 0) (p 1) (p 2) (le-leb l (rank n) k) (p 4)) ∙ p 5

each_rising : (c l : ℕ) (ns : List Note) → Rising l ns → Each (Alone c) ns → ok_notes c l ns ≡ true
unfolding Rising ok_notes
each_rising c l [] r e = refl
each_rising c l (n ∷ ns) r e = rw (note_after c l n e.0 r.0) (each_rising c (rank n) ns r.1 e.1)

pub written_read : (v : Version) (c d : ℕ) (ns : List Note) → 1 ≤ c → c ≤ 9 → d < 2 ^ 32 → length ns < 2 ^ 24 → Each (Alone c) ns → Each (λ n. Tells v n.origin) ns
    → decode (encode v c d (arranged [] ns)) ≡ some (record { version = v; columns = c; draws = d; notes = arranged [] ns })
written_read v c d ns low high fd fn e t =
    decode_encode v c d (arranged [] ns)
    (record {
      some_columns = low;
      few_columns = high;
      draws_fit = fd;
      notes_fit = rw (length_arranged [] ns, zero-add (length ns)) fn;
      notes_ok = each_rising c 0 (arranged [] ns) (sorted ns) (each_arranged (Alone c) [] ns tt e);
      objects_told = each_arranged (λ n. Tells v n.origin) [] ns tt t;
    })
