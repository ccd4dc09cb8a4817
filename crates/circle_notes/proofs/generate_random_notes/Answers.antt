-- `circle_notes::generate_random_notes` meets its contract. Assumes nothing.
use Prim.Native.Nat.{◌<◌}
use native.Mathlib.Omega.{arith}
use Rattle.mania.specs.HitObject.{generate_random_notes}
use Rattle.pattern.specs.Laws.Searches.{get_column_lt}
use Rattle.circle_notes.proofs.generate_random_notes.Goals as goal
use Rattle.circle_notes.proofs.generate_random_notes.Goals.{After-get_column-first}

-- the first column is on the deck
small : (c : After-get_column-first) → c.get_column-first.result < c.args.circle.g.columns
small c = rw c.get_column-first.ensures (get_column_lt _ _ (omega arith))

pub add_random-requires : goal.add_random-requires
add_random-requires c = (small (goal.at.add_random-requires c).After-get_column-first, omega (arith, c.min-n.ensures), omega arith)

pub returns-then-has_type : goal.returns-then-has_type
unfolding generate_random_notes
returns-then-has_type c =
    let k = c.add_random.ensures in
    (rw (← c.get_column-first.ensures, ← c.has_type.ensures, c.if-has_type.true, ← c.room.ensures, ← c.min-n.ensures) k.0, k.1)

pub add_random-requires-2 : goal.add_random-requires-2
add_random-requires-2 c = (small (goal.at.add_random-requires-2 c).After-get_column-first, omega arith, omega arith)

pub returns : goal.returns
unfolding generate_random_notes
returns c =
    let k = c.add_random-2.ensures in
    (rw (← c.get_column-first.ensures, ← c.has_type.ensures, c.if-has_type.false) k.0, k.1)
