-- `slider_notes::any_column` meets its contract. Assumes nothing.
use mathlib.Core.Path.{ap, ◌∙◌}
use Prim.Native.Nat.{ℕ}
use Rattle.random.specs.Play.{on}
use Rattle.mania.specs.PatternGenerator.{get_random_column}
use Rattle.pattern.specs.Laws.Searches.{start_lt}
use Rattle.slider_notes.proofs.any_column.Goals as goal

pub get_random_column-requires : goal.get_random_column-requires
get_random_column-requires c = (rw c.random_start-low.ensures (start_lt _ c.requires.0), c.requires.1)

pub returns : goal.returns
returns c =
    let a = c.args in
    c.get_random_column.ensures ∙ ap (λ (low : ℕ). on (get_random_column low a.columns) a.d) c.random_start-low.ensures
