-- `sumopine::one_object::sumopine_object` meets its contract. Assumes nothing.
use Rattle.std.proofs.Common.{ap, ◌∙◌}
use Rattle.object_numbers.specs.Single.{node_of}
use Rattle.object_numbers.proofs.Laws.{single_whole}
use Rattle.object_numbers.proofs.Gives.{object_from, gives}
use Rattle.sumopine.proofs.one_object.sumopine_object.Goals as goal

pub returns : goal.returns
returns c =
    let a = c.args in
    let node = c.given-n.ensures ∙ ap (node_of a.has_node) c.saturate_u8.ensures in
    gives _ _ _ _ _ _ _ _ _ _ _ _ c.convert_object.result _ _ c.facts_of-f.ensures c.previous_of-v.ensures c.saturate_u8-c.ensures
    (object_from _ _ _ _ _ _ _ _ _ _ _ _ _ c.given-d.ensures node c.kind_of-k.ensures c.object_of-o.ensures)
    (single_whole _ a.previous_time a.previous_x a.previous_y a.previous_mask a.previous_last a.previous_stair a.columns
    a.x a.y a.start a.sound a.kind a.repeats _ a.has_node a.node a.duration _ _ _)
    c.convert_object.ensures c.tell-t.ensures
