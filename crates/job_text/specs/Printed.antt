-- What a program prints for an input: of its job what it shows of a chart, or the refusal's line. Assumes nothing.
use Rattle.std.specs.Prelude.{List, [], ℕ, leb, length, take, replicate, if◌then◌else◌}
use Rattle.std.proofs.Math.Option.{Option, none, some}
use Rattle.text.specs.Text.{ascii}
use Rattle.chart.specs.Chart.{Score, decode}
use Rattle.chart_text.specs.Text.{text, refusal_line}
use Rattle.sheet.specs.Sheet.{sheet}
use Rattle.mania.specs.Job.{Answer, Job, accepted, refusal}
use Rattle.job.specs.Job.{job}
use Rattle.job_text.specs.Limits.{longest_record, chart_bytes, allowance}

-- ---- by what is shown of a chart's bytes

abbrev pub answer_by : (List ℕ → List ℕ) → Answer → List ℕ → List ℕ
answer_by show (accepted n longest) chart = show (take n chart)
answer_by show (refusal r i d) chart = refusal_line r i d

abbrev pub job_by : (List ℕ → List ℕ) → Job → List ℕ
job_by show j = answer_by show j.answer j.chart

-- the chart buffer that a program lends
unfoldable pub zeros : List ℕ
zeros = replicate chart_bytes 0

-- the whole output for an input
unfoldable pub printed_by : (List ℕ → List ℕ) → List ℕ → List ℕ
printed_by show input = if leb (length input) longest_record then job_by show (job input zeros allowance) else ascii "too long\n"

-- ---- `charttext` shows the chart's text

abbrev pub job_text : Job → List ℕ
job_text j = job_by text j

abbrev pub printed : List ℕ → List ℕ
printed input = printed_by text input

-- ---- `chartsheet` shows its sheet

unfoldable pub sheet_read : Option Score → List ℕ
sheet_read none = []
sheet_read (some c) = sheet c

abbrev pub sheet_text : List ℕ → List ℕ
sheet_text s = sheet_read (decode s)

abbrev pub job_sheet : Job → List ℕ
job_sheet j = job_by sheet_text j

abbrev pub sheet_printed : List ℕ → List ℕ
sheet_printed input = printed_by sheet_text input
