-- `dsm_pkr::padding_shown`: the padding, after the key's size and the number of blocks.
-- Assumes nothing.
use native.Mathlib.Omega.{arith}
use Rattle.layouts.proofs.Pkr.{key_few, key_long, type_there, padding_refused, padding_uncounted, padding_short, padding_given}
use Rattle.layouts.proofs.Refused.{carried}
use Rattle.layouts.proofs.dsm_pkr.padding_shown.Goals as goal

pub returns-in_err-size : goal.returns-in_err-size
returns-in_err-size c = rw (carried _ c.from_residual.ensures.1) (padding_refused c.args.msg.now c.in_err-size.ensures)

pub blocks-requires : goal.blocks-requires
blocks-requires c = omega (arith, type_there c.args.msg.now c.in_ok-size.ensures)

pub returns-in_err-n : goal.returns-in_err-n
returns-in_err-n c =
    rw (carried _ c.from_residual-in_err-n.ensures.1) (padding_uncounted c.args.msg.now c.in_ok-size.ensures c.blocks-2.ensures c.in_err-n.ensures.value)

pub overflow_add-start : goal.overflow_add-start
overflow_add-start c =
    let m = c.args.msg.now in
    omega (arith, key_long m c.in_ok-size.ensures, key_few m)

pub returns-then-end-start : goal.returns-then-end-start
returns-then-end-start c =
    padding_short c.args.msg.now c.in_ok-size.ensures c.blocks-2.ensures c.in_ok-n.ensures.value c.from-end.ensures c.if-end-start.true

pub returns : goal.returns
returns c =
    padding_given c.args.msg.now c.in_ok-size.ensures c.blocks-2.ensures c.in_ok-n.ensures.value c.from-end.ensures c.if-end-start.false c.within.ensures
