-- `exact_times::moments::first_at` meets its contract: a law for each case of the moment.
-- Assumes nothing.
use Rattle.std.specs.Prelude.{ℕ, Float, Option, Some, None, unwrap_or}
use Rattle.exact_times.specs.Instants.{Tells, FirstAt}
use Rattle.exact_times.specs.Laws.Instants.{at_first, before_first}
use Rattle.exact_times.proofs.moments.first_at.Goals as goal

first : (t : Float) (m : Option ℕ) → Tells t m → FirstAt t (unwrap_or m 0)
first t (Some b) h = at_first _ b h
first t None h = before_first _ h

pub returns : goal.returns
returns c = rw c.unwrap_or.ensures (first c.args.at.t c.moment_of.result c.moment_of.ensures)
