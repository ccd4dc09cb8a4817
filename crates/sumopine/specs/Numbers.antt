-- The answers of a job, of the chart reader and of the note reader as the numbers that a host in C gets. Assumes nothing.
use Rattle.std.specs.Prelude as Std
use Rattle.std.specs.Prelude.{cond, ℕ, None, Some}
use Rattle.std.proofs.Math.Option.{Option, none, some}
use Rattle.chart.specs.Layout.{version_number}
use Rattle.chart.specs.declared.Note.{Note}
use Rattle.chart.specs.Chart.{Reading}
use Rattle.chart.specs.Chart as Chart
use Rattle.mania.specs.Job.{Answer, accepted, refusal}

-- ---- a job: the refusal's number, 0 for none; the chart's length, 0 after a refusal; the object's index, 0 where there is a chart; the most draws
-- of one search, 0 after a refusal

abbrev pub number_of : Answer → ℕ
number_of (accepted length longest) = 0
number_of (refusal n i d) = n

abbrev pub length_of : Answer → ℕ
length_of (accepted length longest) = length
length_of (refusal n i d) = 0

abbrev pub object_of : Answer → ℕ
object_of (accepted length longest) = 0
object_of (refusal n i d) = i

abbrev pub longest_of : Answer → ℕ
longest_of (accepted length longest) = longest
longest_of (refusal n i d) = 0

-- ---- a chart that is read: the refusal's number, 0 for none; the version and the header's numbers, 0 after a refusal

abbrev pub read_number : Reading → ℕ
read_number (Chart.refused n) = n
read_number (Chart.accepted v c n d) = 0

abbrev pub read_version : Reading → ℕ
read_version (Chart.refused n) = 0
read_version (Chart.accepted v c n d) = version_number v

abbrev pub read_columns : Reading → ℕ
read_columns (Chart.refused n) = 0
read_columns (Chart.accepted v c n d) = c

abbrev pub read_notes : Reading → ℕ
read_notes (Chart.refused n) = 0
read_notes (Chart.accepted v c n d) = n

abbrev pub read_draws : Reading → ℕ
read_draws (Chart.refused n) = 0
read_draws (Chart.accepted v c n d) = d

-- ---- a note: 1 and its fields, or 0 and zeros; a hold is 1, a circle 0; whether it tells its object, and the object's index

abbrev pub is_found : Option Note → ℕ
is_found none = 0
is_found (some n) = 1

abbrev pub column_in : Option Note → ℕ
column_in none = 0
column_in (some n) = n.column

abbrev pub hold_in : Option Note → ℕ
hold_in none = 0
hold_in (some n) = cond n.hold 1 0

abbrev pub start_in : Option Note → ℕ
start_in none = 0
start_in (some n) = n.start

abbrev pub duration_in : Option Note → ℕ
duration_in none = 0
duration_in (some n) = n.duration

-- 1 where the object is told
abbrev pub told : Std.Option ℕ → ℕ
told None = 0
told (Some i) = 1

abbrev pub has_object_in : Option Note → ℕ
has_object_in none = 0
has_object_in (some n) = told n.origin

abbrev pub object_in : Option Note → ℕ
object_in none = 0
object_in (some n) = Chart.index n.origin
