-- `text::put_run` meets its contract: the part that is filled is spliced in. Assumes nothing.
use Rattle.std.proofs.Common.{◌≡◌, ◌+◌, ◌-◌, length, replicate, take, drop, length-drop, length-take-le, arith}
use Rattle.std.proofs.lemmas.List.{length-replicate}
use Rattle.text.specs.Laws.{part_splice}
use Rattle.text.proofs.put_run.Goals as goal

pub returns-clause-s_after : goal.returns-clause-s_after
returns-clause-s_after c =
    let a = c.args in
    let k = a.at + a.count - a.at in
    let size : length (take k (drop a.at a.s.now)) ≡ a.count = omega (arith, length-take-le k (drop a.at a.s.now) (omega (arith, length-drop a.at a.s.now))) in
    rw (c.fill.ensures.after (λ y e. e), size) (part_splice a.at k a.s.now (replicate a.count a.character) (omega (arith, length-replicate a.count a.character)))
