-- What `hitobjects` prints for an input, as the other programs do (`job_text/specs/Printed`): it shows a chart's hit object lines. Assumes nothing.
use Rattle.std.specs.Prelude.{List, ℕ, if◌then◌else◌}
use Rattle.std.proofs.Math.Option.{Option, none, some}
use Rattle.rules.specs.Numbers as Numbers
use Rattle.chart.specs.Chart.{Score, decode, draws_of}
use Rattle.chart_text.specs.Text.{refusal_line}
use Rattle.mania.specs.Job.{Job}
use Rattle.job_text.specs.Printed.{job_by, printed_by}
use Rattle.hit_object_lines.specs.Lines.{chart_lines, all_whole}

-- a chart with a time between two milliseconds is refused, at no object, after the job's draws; bytes that are no chart never come out of a job
unfoldable pub lines_of : Option Score → ℕ → List ℕ
lines_of none draws = refusal_line Numbers.broken_chart 0 draws
lines_of (some c) draws = if all_whole c.notes then chart_lines c.columns c.notes else refusal_line Numbers.not_whole 0 draws

unfoldable pub lines_text : List ℕ → List ℕ
lines_text chart = lines_of (decode chart) (draws_of chart)

abbrev pub job_lines : Job → List ℕ
job_lines j = job_by lines_text j

-- the whole output for an input
abbrev pub printed : List ℕ → List ℕ
printed input = printed_by lines_text input
