-- `chart_lookup::covering::first_covering` meets its contract: no note before the one found is a hold that covers the instant.
-- Assumes nothing.
use borrow.Author.Rules.{rules}
use mathlib.Core.Path.{◌≡◌}
use mathlib.Core.Bool.{Bool, true, false}
use Prim.Native.Nat.{ℕ}
use native.Mathlib.Omega.{arith}
use lib.ListN.{get_or}
use Rattle.std.proofs.lemmas.Iterator.{first_from_Range}
use Rattle.chart.specs.Chart.{notes_in, blank}
use Rattle.chart_lookup.specs.Lookup.{Covering, wanted}
use Rattle.chart_lookup.specs.Laws.Wanted.{first_held}
use Rattle.chart_lookup.proofs.covering.first_covering.Goals as goal

pub returns : goal.returns
returns c =
    let covers : ℕ → Bool = λ i. wanted (Covering c.args.at.t) (get_or (notes_in c.args.notes.chart.now) i blank) in
    rw c.unwrap_or.ensures
    (first_held c.args.notes.chart.now c.args.at.t c.args.end (omega (arith, c.args.notes.counted, c.requires)) _
    (first_from_Range _ _ _ _ (λ i. covers i ≡ true) (λ i. covers i ≡ false) c.find.ensures.ran (λ x q e. search rules) (λ x q e. search rules)))
