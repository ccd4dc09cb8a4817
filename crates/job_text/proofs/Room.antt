-- A chart's sheet in a buffer with room for it: it is never refused for the buffer. Assumes nothing.
use mathlib.Core.Path.{◌≡◌, refl, sym, ap, ◌∙◌}
use mathlib.Core.List.{List}
use mathlib.Core.Option.{Option, none, some}
use Prim.Native.Nat.{ℕ, ◌≤◌}
use native.Mathlib.Omega.{arith}
use lib.ListN.{length}
use Rattle.std.specs.Prelude.{Result, Ok, Err}
use Rattle.std.specs.Result.{result_unwrap_or}
use Rattle.rules.specs.Coded.{code}
use Rattle.rules.specs.declared.Refusal.{Refusal}
use borrow.Author.Tests.{le-leb}
use Rattle.chart.specs.Bytes.{Bytes, splice}
use Rattle.chart.specs.Laws.Bytes.{splice_none}
use Rattle.chart.specs.Chart.{Score, decode}
use Rattle.chart.specs.Laws.Reader.{notes_room}
use Rattle.sheet.specs.Sheet.{Outcome, refused, written, told, sheet, given, putting, sheeted}
use Rattle.sheet.proofs.Claims.{claims}
use Rattle.job_text.specs.Limits.{chart_bytes, sheet_bytes}
use Rattle.job_text.specs.Printed.{sheet_read, sheet_text}

module _ (s buffer after : List ℕ) (bytes : Bytes s) (short : length s ≤ chart_bytes) (room : sheet_bytes ≤ length buffer) where
  sheet_fits : (c : Score) → decode s ≡ some c → length (sheet c) ≤ length buffer
  sheet_fits c e = rw (claims s bytes c e).size (omega (arith, notes_room s c e))

  -- the answer for a chart
  put_in : (c : Score) → decode s ≡ some c → given (sheet c) buffer ≡ (written (length (sheet c)), splice buffer 0 (sheet c))
  unfolding given
  put_in c e = rw (le-leb (length (sheet c)) (length buffer) (sheet_fits c e))

  length_by : (n : ℕ) (o : Option Score) → decode s ≡ o → (written n, after) ≡ putting o buffer
      → (n ≡ length (sheet_read o)) × ((n ≤ length buffer) × (after ≡ splice buffer 0 (sheet_read o)))
  unfolding putting sheet_read
  length_by n none e h = absurd (let q : written n ≡ refused 14 = ap (λ (p : Outcome × List ℕ). p.0) h in let z : ◌≡◌ {A = ℕ} 0 1 = cc in omega arith)
  length_by n (some c) e h =
      let is = h ∙ put_in c e in
      let q : written n ≡ written (length (sheet c)) = ap (λ (p : Outcome × List ℕ). p.0) is in
      let size : n ≡ length (sheet c) = cc in
      (size, (rw size (sheet_fits c e), ap (λ (p : Outcome × List ℕ). p.1) is))

  -- of a length that is answered
  pub put_length : (n : ℕ) → (written n, after) ≡ sheeted s buffer → (n ≡ length (sheet_text s)) × ((n ≤ length buffer) × (after ≡ splice buffer 0 (sheet_text s)))
  unfolding sheeted
  put_length n h = length_by n (decode s) refl h

  refused_by_law : (k : ℕ) (o : Option Score) → decode s ≡ o → (refused k, after) ≡ putting o buffer → (0 ≡ length (sheet_read o)) × (after ≡ splice buffer 0 (sheet_read o))
  unfolding putting sheet_read
  refused_by_law k none e h = (refl, ap (λ (p : Outcome × List ℕ). p.1) h ∙ sym (splice_none buffer 0 (omega arith)))
  refused_by_law k (some c) e h =
      absurd (let q : refused k ≡ written (length (sheet c)) = ap (λ (p : Outcome × List ℕ). p.0) (h ∙ put_in c e) in let z : ◌≡◌ {A = ℕ} 0 1 = cc in omega arith)

  -- a refusal says that there is no chart
  pub put_refused : (k : ℕ) → (refused k, after) ≡ sheeted s buffer → (0 ≡ length (sheet_text s)) × (after ≡ splice buffer 0 (sheet_text s))
  unfolding sheeted
  put_refused k h = refused_by_law k (decode s) refl h

  -- what is shown for the answer: its length, and none for a refusal
  pub put_answer : (r : Result ℕ Refusal) → (told r, after) ≡ sheeted s buffer
      → (result_unwrap_or r 0 ≡ length (sheet_text s)) × ((result_unwrap_or r 0 ≤ length buffer) × (after ≡ splice buffer 0 (sheet_text s)))
  put_answer (Ok n) h = put_length n h
  put_answer (Err r) h = let is = put_refused (code r) h in (is.0, (omega arith, is.1))
