-- A job that ended, from what `convert` promises of its answer, and what is printed of it. `show` is what is shown of a chart. Assumes nothing.
use mathlib.Core.Path.{◌≡◌, refl, sym, ap, ◌∙◌, subst}
use Prim.Native.Nat.{ℕ, ◌≤◌, ◌<◌}
use native.Mathlib.Omega.{arith}
use mathlib.Core.List.{List}
use lib.ListN.{length}
use borrow.Author.Tests.{le-leb, lt-leb}
use Rattle.chart.specs.Bytes.{splice}
use Rattle.chart.specs.Laws.Notes.{length_encode}
use Rattle.mania.specs.Job.{Job}
use Rattle.job.specs.Job.{job}
use Rattle.job.proofs.Read.{reads}
use Rattle.std.specs.Prelude.{Ok}
use Rattle.convert.specs.Ends.{JobEnd, job_end}
use Rattle.text.specs.Text.{ascii}
use Rattle.job_text.specs.Limits.{longest_record, allowance}
use Rattle.job_text.specs.Printed.{zeros, job_by, printed_by}

module _ (show : List ℕ → List ℕ) where
  pub converted : (input : List ℕ) → length input ≤ longest_record → printed_by show input ≡ job_by show (job input zeros allowance)
  unfolding printed_by
  converted input h = rw (le-leb (length input) longest_record h) refl

  pub too_long : (input : List ℕ) → longest_record < length input → printed_by show input ≡ ascii "too long\n"
  unfolding printed_by
  too_long input h = rw (lt-leb (length input) longest_record h) refl

module _ (bytes buffer made : List ℕ) (a : ℕ) (r s : JobEnd) (e : job_end made r ≡ job bytes buffer a) (h : r ≡ s) where
  ended : job_end made s ≡ job bytes buffer a
  ended = ap (job_end made) (sym h) ∙ e

  -- what is the text of the answer is the text of the job
  pub ended_text : (show : List ℕ → List ℕ) (n : ℕ) (before after : List ℕ) → (n ≡ length (job_by show (job_end made s))) × (after ≡ splice before 0 (job_by show (job_end made s)))
      → (n ≡ length (job_by show (job bytes buffer a))) × (after ≡ splice before 0 (job_by show (job bytes buffer a)))
  ended_text show n before after p = subst (λ (j : Job). (n ≡ length (job_by show j)) × (after ≡ splice before 0 (job_by show j))) ended p

-- a chart is no longer than the buffer
pub chart_fits : (bytes buffer made : List ℕ) (a n g : ℕ) (r : JobEnd) → job_end made r ≡ job bytes buffer a → r ≡ Ok (record { length = n; longest = g }) → n ≤ length made
chart_fits bytes buffer made a n g r e h =
    let q = ended bytes buffer made a r (Ok (record { length = n; longest = g })) e h in
    let room = (reads bytes buffer).room a n g (ap (λ (j : Job). j.answer) (sym q)) in
    omega (arith, room.0, room.1, ap (λ (j : Job). length j.chart) q)

-- it has a header
pub chart_long : (bytes buffer made : List ℕ) (a n g : ℕ) (r : JobEnd) → job_end made r ≡ job bytes buffer a → r ≡ Ok (record { length = n; longest = g }) → 8 ≤ n
chart_long bytes buffer made a n g r e h =
    let q = ended bytes buffer made a r (Ok (record { length = n; longest = g })) e h in
    omega (arith, rw length_encode at ((reads bytes buffer).long a n g (ap (λ (j : Job). j.answer) (sym q))))
