-- `hit_object_type::capped` meets its contract. antt computes that each literal of the table is the float nearest to the rule's hundredths. Assumes nothing.
use Rattle.std.specs.Prelude.{◌≡◌, map, get_or, List, [], Float}
use Rattle.std.proofs.Common.{ap, ◌∙◌}
use lib.Ieee.{round, of_bits, nan}
use Rattle.floats.specs.Least.{least}
use Rattle.mania.specs.HitObject.{caps, percent, capped}
use Rattle.pattern.specs.Laws.Tables.{entry_at}
use Rattle.hit_object_type.proofs.Tables.{row, four}
use Rattle.hit_object_type.proofs.capped.Goals as goal

pub returns : goal.returns
unfolding capped caps percent round of_bits
returns c =
    let n = c.args.columns in
    let k = c.args.c in
    let none = percent 100 100 100 100 in
    let e : get_or (map row caps) n [] ≡ row (get_or caps n none) = entry_at row caps n none [] c.requires in
    four
    (c.min.ensures ∙ ap (λ (r : List Float). least k.p2 (get_or r 0 nan)) e)
    (c.min-2.ensures ∙ ap (λ (r : List Float). least k.p3 (get_or r 1 nan)) e)
    (c.min-3.ensures ∙ ap (λ (r : List Float). least k.p4 (get_or r 2 nan)) e)
    (c.min-4.ensures ∙ ap (λ (r : List Float). least k.p5 (get_or r 3 nan)) e)
