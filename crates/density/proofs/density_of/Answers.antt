-- `density::density_of` meets its contract: by what the law says of the array's first times. Assumes nothing.
use mathlib.Core.Path.{◌≡◌}
use lib.ListN.{length}
use Rattle.density.proofs.Queue.{few_times, density_is}
use borrow.Author.Rules.{rules}
use Rattle.density.proofs.density_of.Goals as goal

pub returns-then-len-lt2 : goal.returns-then-len-lt2
returns-then-len-lt2 c = let h : length c.args.d.times ≡ 7 = search rules in few_times c.args.d.times c.args.d.len c.args.d.value h c.args.d.held c.if-len-lt2.true

pub returns : goal.returns
returns c = let h : length c.args.d.times ≡ 7 = search rules in density_is c.args.d.times c.args.d.len c.args.d.value h c.args.d.held c.if-len-lt2.false
