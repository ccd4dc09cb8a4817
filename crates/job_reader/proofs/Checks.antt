-- What the check of a record returns, by the parts of its row. Assumes nothing.
use Rattle.std.specs.Prelude.{Ok, Err}
use mathlib.Core.Path.{◌≡◌, refl, sym, ap, ◌∙◌}
use Prim.Native.Nat.{ℕ, zero, suc}
use mathlib.Core.List.{List}
use lib.Ieee.{Float}
use Rattle.rules.specs.declared.Refusal.{Refusal}
use Rattle.rules.specs.Coded.{code}
use Rattle.model.specs.Song.{Song}
use Rattle.model.specs.Totals.{last_start, sliders_and_spinners}
use Rattle.record.specs.declared.objects.Scanned.{Scanned}
use Rattle.record.specs.Refusal.{◌then◌}
use Rattle.record.specs.Header.{header_refusal, counts_of}
use Rattle.record.specs.Object.{objects_refusal, objects, objects_end, zero_start, scan_by, scan}
use Rattle.record.specs.Record.{places_of, lists_refusal, fill_refusal, record_end, record_refusal, song_of, parsed_by, parse, checked_of}
use Rattle.rules.specs.Laws.Coded.{code_some}
use Rattle.record.specs.Laws.Row.{row_stop, row_next}
use Rattle.record.specs.Laws.Songs.{summary_by, summary_of_law, parse_accepted}

scan_refused : (k end : ℕ) (last : Float) (long m : ℕ) → scan_by k end last long ≡ Err m → k ≡ m
scan_refused zero end last long m e = cc
scan_refused (suc k) end last long m e = cc

record Passed (k end : ℕ) (last : Float) (long : ℕ) (found : Scanned) : Type 0 where
  none : 0 ≡ k
  ends : end ≡ found.end
  starts : last ≡ found.last
  numbers : long ≡ found.long

scan_passed : (k end : ℕ) (last : Float) (long : ℕ) (found : Scanned) → scan_by k end last long ≡ Ok found → Passed k end last long found
scan_passed zero end last long found h =
    let e : ◌≡◌ {A = Scanned} (record { end = end; last = last; long = long }) found = cc in
    record {
      none = refl;
      ends = ap (λ (x : Scanned). x.end) e;
      starts = ap (λ (x : Scanned). x.last) e;
      numbers = ap (λ (x : Scanned). x.long) e;
    }
scan_passed (suc k) end last long found h = record { none = cc; ends = cc; starts = cc; numbers = cc }

refused_by_law : (m n : ℕ) (song : Song) → m ≡ n → (n ≡ 0 → ⊥) → Err n ≡ checked_of (parsed_by m song)
refused_by_law zero n song e h = absurd (h (sym e))
refused_by_law (suc m) n song e h = rw (← e)

module _ (s : List ℕ) where
  check_refused : (r : Refusal) → record_refusal s ≡ code r → Err (code r) ≡ checked_of (parse s)
  unfolding parse
  check_refused r e = refused_by_law (record_refusal s) (code r) (song_of s) e (code_some r)

  -- the header's conditions come first
  pub check_header : (r : Refusal) → code r ≡ header_refusal s → Err (code r) ≡ checked_of (parse s)
  unfolding record_refusal
  check_header r e = check_refused r (row_stop _ _ r e)

  module _ (header : 0 ≡ header_refusal s) where
    after_header : record_refusal s ≡ (lists_refusal s (counts_of s) then objects_refusal s (places_of (counts_of s)).objects (counts_of s).objects then fill_refusal s (record_end s))
    unfolding record_refusal
    after_header = row_next _ _ header

    -- then those of breaks and points
    pub check_lists : (r : Refusal) → code r ≡ lists_refusal s (counts_of s) → Err (code r) ≡ checked_of (parse s)
    check_lists r e = check_refused r (after_header ∙ row_stop _ _ r e)

    module _ (lists : 0 ≡ lists_refusal s (counts_of s)) where
      after_lists : record_refusal s ≡ (objects_refusal s (places_of (counts_of s)).objects (counts_of s).objects then fill_refusal s (record_end s))
      after_lists = after_header ∙ row_next _ _ lists

      -- then those of the objects
      pub check_objects : (r : Refusal) → Err (code r) ≡ scan s (places_of (counts_of s)).objects (counts_of s).objects → Err (code r) ≡ checked_of (parse s)
      unfolding scan
      check_objects r e = check_refused r (after_lists ∙ row_stop _ _ r (sym (scan_refused _ _ _ _ _ (sym e))))

      module _ (found : Scanned) (e : Ok found ≡ scan s (places_of (counts_of s)).objects (counts_of s).objects) where
        passed : Passed (objects_refusal s (places_of (counts_of s)).objects (counts_of s).objects) (objects_end s (places_of (counts_of s)).objects (counts_of s).objects)
            (last_start zero_start (objects s (places_of (counts_of s)).objects (counts_of s).objects)) (sliders_and_spinners (objects s (places_of (counts_of s)).objects (counts_of s).objects)) found
        unfolding scan
        passed = scan_passed _ _ _ _ found (sym e)

        fill : record_refusal s ≡ fill_refusal s found.end
        unfolding record_end
        fill = after_lists ∙ (row_next _ _ passed.none ∙ ap (fill_refusal s) passed.ends)

        -- then the filling
        pub check_fill : (r : Refusal) → code r ≡ fill_refusal s found.end → Err (code r) ≡ checked_of (parse s)
        check_fill r f = check_refused r (fill ∙ sym f)

        pub check_accepted : 0 ≡ fill_refusal s found.end → Ok (summary_by s found.last found.long) ≡ checked_of (parse s)
        check_accepted h =
            ap Ok (ap (λ (x : Float). summary_by s x found.long) (sym passed.starts) ∙ (ap (summary_by s _) (sym passed.numbers) ∙ sym (summary_of_law s)))
            ∙ ap checked_of (sym (parse_accepted s (fill ∙ sym h)))
