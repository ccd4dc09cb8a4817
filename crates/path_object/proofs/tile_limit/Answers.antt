-- `path_object::tile_limit` meets its contract. Assumes nothing.
use native.Mathlib.Omega.{arith}
use Rattle.slider_notes.proofs.Decks.{start_two}
use borrow.Author.Rules.{rules}
use Rattle.mania.specs.PathObject.{tile_limit}
use Rattle.path_object.proofs.tile_limit.Goals as goal

pub overflow_sub-result-2 : goal.overflow_sub-result-2
overflow_sub-result-2 c =
    let k = c.random_start-start.ensures in
    omega (arith, start_two c.args.columns c.requires)

pub returns : goal.returns
unfolding tile_limit
returns c = search rules
