-- The notes of a chart, one by one.
-- Assumes nothing.
use Rattle.std.specs.Prelude.{◌≡◌, Bool, true, false, List, [], ◌∷◌, eqb, length, get_or}
use Rattle.std.proofs.Math.Path.{sym, ap}
use Rattle.std.proofs.Common.{◌∙◌, div-add-mod', add-zero, arith, ltb-true, leb-true, eqb-true}
use Rattle.std.proofs.Math.Bool.{cond}
use Prim.Native.Nat.{ℕ, zero, suc, ◌+◌, ◌*◌, ◌/◌, ◌%◌, ◌≤◌, ◌<◌}
use Rattle.std.proofs.Math.Nat.{mul-add-div_right}
use Rattle.floats.specs.Format.{infinity}
use Rattle.floats.specs.Ticks.{ticks}
use Rattle.model.specs.Limits.{latest_end}
use Rattle.chart.specs.declared.Note.{Note}
use Rattle.chart.specs.Time.{time, latest}
use Rattle.chart.specs.Tests.{both, passes}
use Rattle.chart.specs.Order.{rank}
use Rattle.chart.specs.Chart.{ok_note, ok_notes, note_tests}
use Rattle.chart.specs.Laws.Reader.{note_fits}
use Rattle.hit_object_lines.specs.Lines.{circle, hold, millisecond, start_of, end_of, is_whole, x_of, line_of}
use Rattle.hit_object_lines.specs.Laws.Times.{InTime, one_ms, most_ms, in_start, in_duration}

-- what the chart reader has checked of a note, with `columns` columns
pub record Standing (columns : ℕ) (n : Note) : Type 0 where
  pub on_deck : n.column < columns
  pub start_time_law : n.start < infinity
  pub duration_time : n.duration < infinity
  pub ends : ticks (time n.start) + ticks (time n.duration) ≤ latest

pub standing : (c l : ℕ) (n : Note) → ok_note c l n ≡ true → Standing c n
unfolding ok_note note_tests
standing c l n ok =
    let p = passes (note_tests c l n) ok in
    record {
      on_deck = ltb-true n.column c (p 0);
      start_time_law = (note_fits c l n ok).0;
      duration_time = (note_fits c l n ok).1;
      ends = leb-true (ticks (time n.start) + ticks (time n.duration)) latest (p 5);
    }

pub standing_at : (c l : ℕ) (ns : List Note) → ok_notes c l ns ≡ true → (i : ℕ) (d : Note) → i < length ns → Standing c (get_or ns i d)
unfolding ok_notes
standing_at c l [] ok i d h = absurd (omega arith)
standing_at c l (n ∷ ns) ok zero d h = standing c l n (both (ok_note c l n) _ ok).0
standing_at c l (n ∷ ns) ok (suc i) d h = standing_at c (rank n) ns (both (ok_note c l n) _ ok).1 i d (omega arith)

-- a note that has a line
pub record Writable (columns : ℕ) (n : Note) : Type 0 where
  pub some_columns : 0 < columns
  pub stands : Standing columns n
  pub whole : is_whole n ≡ true

module _ (columns : ℕ) (n : Note) (w : Writable columns n) where
  pub start_in_law : InTime n.start
  start_in_law = in_start n.start n.duration w.stands.start_time_law w.stands.ends

  pub duration_in_law : InTime n.duration
  duration_in_law = in_duration n.start n.duration w.stands.duration_time w.stands.ends

  -- whole times add up
  pub end_ms : end_of n / millisecond ≡ ticks (time n.start) / millisecond + ticks (time n.duration) / millisecond
  unfolding is_whole start_of end_of
  end_ms =
      let h = both (eqb (start_of n % millisecond) 0) (eqb (end_of n % millisecond) 0) w.whole in
      let s : ℕ = ticks (time n.start) in
      let all : s ≡ s / millisecond * millisecond = sym (div-add-mod' s millisecond) ∙ rw (eqb-true (s % millisecond) 0 h.0) (add-zero (s / millisecond * millisecond)) in
      ap (λ (z : ℕ). (z + ticks (time n.duration)) / millisecond) all ∙ mul-add-div_right one_ms (s / millisecond) (ticks (time n.duration))

  pub end_few : end_of n / millisecond ≤ latest_end
  unfolding end_of
  end_few = most_ms (ticks (time n.start) + ticks (time n.duration)) w.stands.ends

  -- the line of the code's numbers
  pub line_hold : {x s d : ℕ} → n.hold ≡ true → x ≡ x_of columns n.column → s ≡ ticks (time n.start) / millisecond → d ≡ ticks (time n.duration) / millisecond
      → hold x s (s + d) ≡ line_of columns n
  unfolding line_of start_of
  line_hold is ex es ed =
      let x : ℕ = x_of columns n.column in
      let t : ℕ = start_of n / millisecond in
      rw (ex, es, ed, ← end_ms) (sym (ap (λ (h : Bool). cond h (hold x t (end_of n / millisecond)) (circle x t)) is))

  pub line_circle : {x s : ℕ} → n.hold ≡ false → x ≡ x_of columns n.column → s ≡ ticks (time n.start) / millisecond → circle x s ≡ line_of columns n
  unfolding line_of start_of
  line_circle is ex es = rw (is, ex, es)

  pub sum_few : {s d : ℕ} → s ≡ ticks (time n.start) / millisecond → d ≡ ticks (time n.duration) / millisecond → s + d ≤ latest_end
  sum_few es ed = rw (es, ed) (rw end_ms at end_few)

-- the notes of a chart that was read
pub record Notes (columns count : ℕ) (ns : List Note) : Type 0 where
  pub some_columns : 0 < columns
  pub size : count ≡ length ns
  pub ok : ok_notes columns 0 ns ≡ true
