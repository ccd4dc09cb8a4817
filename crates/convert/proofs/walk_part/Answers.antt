-- `convert::walk_part` meets its contract: the points and the objects of the two parts are the song's. Assumes nothing.
use mathlib.Core.Path.{sym, ap, ◌∙◌}
use native.Mathlib.Omega.{arith}
use lib.Dec.{lit≤}
use Rattle.record.specs.Refusal.{entries}
use Rattle.record.specs.Object.{objects}
use Rattle.convert.specs.Ends.{without_points}
use Rattle.convert.proofs.Songs.{objects_are_in, given, played, given_none, played_none}
use Rattle.convert.proofs.walk_part.Goals as goal

pub walk_objects-requires : goal.walk_objects-requires
unfolding objects entries
walk_objects-requires c =
    let none = c.without_points-none.ensures ∙ ap without_points c.requires.1 in
    (given_none c.args.bytes.now c.args.m c.requires.0 _ none, tt, omega arith, omega (arith, c.requires.2), lit≤ tt, lit≤ tt)

pub returns-then-count-eq0 : goal.returns-then-count-eq0
returns-then-count-eq0 c =
    let walked = c.walk_objects in
    let none = c.without_points-none.ensures ∙ ap without_points c.requires.1 in
    played_none c.args.bytes.now c.args.m c.requires.0 (sym c.if-count-eq0.true) _ none c.args.chart.now walked.new.chart c.args.d walked.result walked.ensures

pub walk_objects-requires-2 : goal.walk_objects-requires-2
walk_objects-requires-2 c =
    let k = c.requires.0 in
    let bytes = c.args.bytes.now in (
      given bytes c.args.m k _ c.requires.1,
      objects_are_in bytes c.args.m k,
      omega arith,
      omega (arith, c.requires.2),
      lit≤ tt,
      lit≤ tt,
    )

pub returns : goal.returns
returns c =
    let walked = c.walk_objects-2 in
    played c.args.bytes.now c.args.m c.requires.0 _ c.requires.1 c.args.chart.now walked.new.chart c.args.d walked.result walked.ensures
