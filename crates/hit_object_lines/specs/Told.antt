-- The code's answers. Assumes nothing.
use Rattle.std.specs.Prelude as Std
use Rattle.std.specs.Prelude.{cond, List, ℕ, length, Some, None, Result, Ok, Err}
use Rattle.std.proofs.Math.Option.{Option, none, some}
use Rattle.rules.specs.Coded.{code}
use Rattle.rules.specs.declared.Refusal.{Refusal}
use Rattle.chart.specs.declared.Note.{Note}
use Rattle.hit_object_lines.specs.Lines.{Outcome, refused, written, chart_lines, all_whole}

-- how many bytes were written, or the number of a refusal
abbrev pub told : Result ℕ Refusal → Outcome
told (Ok k) = written k
told (Err r) = refused (code r)

-- how many bytes the lines have
unfoldable pub size_of : ℕ → List Note → Option ℕ
size_of columns ns = cond (all_whole ns) (some (length (chart_lines columns ns))) none

abbrev pub size_told : Std.Option ℕ → Option ℕ
size_told (Some k) = some k
size_told None = none
