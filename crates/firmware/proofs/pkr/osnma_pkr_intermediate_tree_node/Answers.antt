-- `osnma_pkr_intermediate_tree_node`: where the node lies.
-- Assumes nothing.
use Rattle.std.proofs.Common.{rules}
use Rattle.firmware.proofs.Telling.{placed_by, node_told}
use Rattle.firmware.proofs.pkr.osnma_pkr_intermediate_tree_node.Goals as goal

pub returns : goal.returns
returns c =
    let a = c.args in
    placed_by
    a.first.now
    a.many.now
    (node_told a.msg.now a.node _ _ c.intermediate_tree_node-found.ensures c.map.ensures.cases (λ x w q. search rules))
    c.part.ensures
