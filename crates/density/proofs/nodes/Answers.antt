-- `density::nodes` meets its contract: the fold is over the last seven nodes, which are enough. Assumes nothing.
use Rattle.std.specs.Prelude.{◌≡◌, refl, ◌-◌}
use Rattle.std.proofs.Common.{rules, ap, ◌∙◌}
use Rattle.std.proofs.lemmas.Fn.{fold_over}
use Rattle.std.proofs.lemmas.Iterator.{YieldsList-from_range}
use Rattle.std.proofs.iter.Yields.{nat_range_steps}
use Rattle.density.specs.Queued.{queued}
use Rattle.density.proofs.Queue.{over, over_more, over_range, nodes_last}
use Rattle.density.proofs.nodes.Goals as goal

pub returns : goal.returns
returns c =
    let a = c.args in
    let from = a.count - 7 in
    fold_over nat_range_steps (λ n. n) _ (λ ns d. queued d ≡ over a.o a.length ns (queued a.d)) _
    (λ ns d n b f' j k. let more = over_more a.o a.length ns n (queued a.d) in search rules)
    (record { start = c.saturating_sub.result; end = a.count }) _ _ _ (YieldsList-from_range from a.count (a.count - from) (ap (λ n. record { start = n; end = a.count }) c.saturating_sub.ensures) refl).runs refl c.fold.ensures.ran
    ∙ over_range a.o a.length (a.count - from) from (queued a.d)
    ∙ nodes_last a.o a.length a.count (queued a.d)
