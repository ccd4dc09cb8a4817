-- `slider_notes::find_column` meets its contract. Assumes nothing.
use mathlib.Core.Path.{ap, ◌∙◌}
use Prim.Native.Nat.{ℕ}
use native.Mathlib.Omega.{arith}
use Rattle.random.specs.Play.{on}
use Rattle.mania.specs.declared.Next.TheVariants.{Draw}
use Rattle.mania.specs.PatternGenerator.{find_available_column}
use Rattle.pattern.specs.Laws.Searches.{start_lt}
use Rattle.slider_notes.proofs.find_column.Goals as goal

pub invariant_of-search-clause-some : goal.invariant_of-search-clause-some
invariant_of-search-clause-some c = rw c.random_start-low.ensures (start_lt _ (omega arith))

pub returns : goal.returns
returns c =
    let a = c.args in
    c.find_available_column.ensures
    ∙ ap (λ (low : ℕ). on (find_available_column Draw a.columns a.initial low a.columns a.taken) a.d) c.random_start-low.ensures
