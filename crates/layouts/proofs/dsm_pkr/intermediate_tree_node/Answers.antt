-- `dsm_pkr::intermediate_tree_node`: each check, in the order of its promise.
-- Assumes nothing.
use native.Mathlib.Omega.{arith}
use Rattle.layouts.proofs.Refused.{carried}
use Rattle.layouts.proofs.Pkr.{node_unknown, node_missing, node_ends, node_given}
use Rattle.layouts.proofs.dsm_pkr.intermediate_tree_node.Goals as goal

pub returns-then-node_number-gt3 : goal.returns-then-node_number-gt3
returns-then-node_number-gt3 c = search node_unknown

pub returns-in_err-part : goal.returns-in_err-part
returns-in_err-part c =
    rw (carried _ c.from_residual.ensures.1) (node_missing c.args.msg.now c.args.node_number (omega arith) c.in_err-part.ensures)

pub node_at-bytes-requires : goal.node_at-bytes-requires
node_at-bytes-requires c = node_ends c.args.msg.now c.args.node_number (omega arith) c.in_ok-part.ensures

pub returns : goal.returns
returns c = node_given c.args.msg.now c.args.node_number (omega arith) c.in_ok-part.ensures c.node_at-bytes.ensures
