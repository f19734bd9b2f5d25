-- `dsm_pkr::merkle_tree_leaf_shown`: the leaf, after the key's size.
-- Assumes nothing.
use native.Mathlib.Omega.{arith}
use Rattle.layouts.proofs.Pkr.{key_few, key_long, leaf_refused, leaf_given}
use Rattle.layouts.proofs.Refused.{carried}
use Rattle.layouts.proofs.dsm_pkr.merkle_tree_leaf_shown.Goals as goal

pub overflow_add-size : goal.overflow_add-size
overflow_add-size c =
    let m = c.args.msg.now in
    omega (arith, key_long m c.in_ok-size.ensures, key_few m)

pub returns-in_err-size : goal.returns-in_err-size
returns-in_err-size c = rw (carried _ c.from_residual.ensures.1) (leaf_refused c.args.msg.now c.in_err-size.ensures)

pub returns : goal.returns
returns c = leaf_given c.args.msg.now c.in_ok-size.ensures c.within.ensures
