-- `density::push` meets its contract: where there is room the time is put behind the others, and where there is none the others move up. Assumes nothing.
use mathlib.Core.Path.{◌≡◌, ap}
use Rattle.density.specs.Queued.{queued, pushed}
use Rattle.density.proofs.Queue.{room, full}
use lib.ListN.{length}
use borrow.Author.Rules.{rules}
use Rattle.density.proofs.push.Goals as goal

pub returns-then-len-lt7 : goal.returns-then-len-lt7
unfolding queued pushed
returns-then-len-lt7 c = let h : length c.args.d.times ≡ 7 = search rules in ap (λ z. record { times = z; value = c.args.d.value }) (room c.args.d.times c.args.d.len c.args.time h c.if-len-lt7.true)

pub returns : goal.returns
unfolding queued pushed
returns c = let h : length c.args.d.times ≡ 7 = search rules in ap (λ z. record { times = z; value = c.args.d.value }) (full c.args.d.times c.args.d.len c.args.time h c.if-len-lt7.false)
