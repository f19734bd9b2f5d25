-- `dsm_kroot::digital_signature_shown`: the signature, after the key.
-- Assumes nothing.
use Rattle.layouts.proofs.Kroot.{key_ends, key_long, key_few, signature_refused, signature_none, signature_given}
use Rattle.layouts.proofs.Refused.{carried}
use native.Mathlib.Omega.{arith}
use Rattle.layouts.proofs.dsm_kroot.digital_signature_shown.Goals as goal

pub overflow_add-start : goal.overflow_add-start
overflow_add-start c = omega (arith, key_ends c.args.msg.now c.in_ok-key.ensures)

pub overflow_sub-msg : goal.overflow_sub-msg
overflow_sub-msg c = key_ends c.args.msg.now c.in_ok-key.ensures

pub signature_length-requires : goal.signature_length-requires
signature_length-requires c =
    let m = c.args.msg.now in
    omega (arith, key_long m c.in_ok-key.ensures, key_few m)

pub returns-in_err-key : goal.returns-in_err-key
returns-in_err-key c = rw (carried _ c.from_residual.ensures.1) (signature_refused c.args.msg.now c.in_err-key.ensures)

pub returns-in_err-len : goal.returns-in_err-len
returns-in_err-len c =
    rw (carried _ c.from_residual-in_err-len.ensures.1)
    (signature_none c.args.msg.now c.in_ok-key.ensures c.signature_length.ensures c.in_err-len.ensures.value)

pub returns : goal.returns
returns c = signature_given c.args.msg.now c.in_ok-key.ensures c.signature_length.ensures c.in_ok-len.ensures.value c.within.ensures
