-- The chart of an accepted job has the job's draws in its header. Assumes nothing.
use mathlib.Core.Path.{◌≡◌, refl, sym, ap, ◌∙◌}
use Prim.Native.Nat.{ℕ, ◌^◌, ◌≤◌, ◌<◌}
use native.Mathlib.Omega.{arith}
use mathlib.Core.List.{List, ◌++◌}
use lib.ListN.{length, take, drop}
use lib.Seq.{take_at}
use Rattle.chart.specs.declared.Version.TheVariants.{Two}
use Rattle.chart.specs.declared.Note.{Note}
use Rattle.chart.specs.Bytes.{be, num}
use Rattle.chart.specs.Chart.{Score, encode, header, draws_of, score_of, decode}
use Rattle.chart.specs.Laws.Reader.{read_score}
use Rattle.chart.specs.Laws.Notes.{length_encode}
use Rattle.mania.specs.Chart.{written}
use Rattle.mania.specs.Job.{accepted}
use Rattle.job.specs.Job.{job, columns, draws}
use Rattle.job.specs.Read.{chart_notes}
use Rattle.job.proofs.Read.{reads}

-- the header does not depend on what follows it
header_draws : (c d : ℕ) (ns : List Note) (rest : List ℕ) → draws_of (encode Two c d ns ++ rest) ≡ draws_of (encode Two c d ns)
unfolding draws_of encode header be num
header_draws c d ns rest = refl

module _ (bytes buffer : List ℕ) (a n g : ℕ) (small : a < 2 ^ 32) (e : (job bytes buffer a).answer ≡ accepted n g) where
  abbrev chart : List ℕ
  chart = encode Two (columns bytes) (draws bytes buffer a) (chart_notes bytes buffer a)

  long : n ≡ length chart
  long = (reads bytes buffer).long a n g e

  is_written : (job bytes buffer a).chart ≡ written chart buffer
  is_written = (reads bytes buffer).chart a n g e

  -- the chart's own bytes
  front : take n (job bytes buffer a).chart ≡ chart
  unfolding written
  front = ap (take n) is_written ∙ take_at chart (drop (length chart) buffer) n (sym long)

  pub draws_told : draws_of (job bytes buffer a).chart ≡ draws bytes buffer a
  unfolding written score_of
  draws_told =
      let d : decode chart ≡ _ = ap decode (sym front) ∙ (reads bytes buffer).read a n g small e in
      ap draws_of is_written ∙ header_draws (columns bytes) (draws bytes buffer a) (chart_notes bytes buffer a) _
      ∙ ap (λ (s : Score). s.draws) (read_score chart _ d).1

  pub header_room : 8 ≤ length (job bytes buffer a).chart
  header_room =
      let r = (reads bytes buffer).room a n g e in
      let l = length_encode Two (columns bytes) (draws bytes buffer a) (chart_notes bytes buffer a) in
      omega (arith, r.0, r.1, long, l)
