-- `dsm_kroot::padding_shown`: what is left after the signature.
-- Assumes nothing.
use Rattle.layouts.proofs.Kroot.{sig_ends, padding_refused, padding_given}
use Rattle.layouts.proofs.Refused.{carried}
use native.Mathlib.Omega.{arith}
use Rattle.layouts.proofs.dsm_kroot.padding_shown.Goals as goal

pub overflow_add-start : goal.overflow_add-start
overflow_add-start c = omega (arith, sig_ends c.args.msg.now c.in_ok-signature.ensures)

pub overflow_sub-msg : goal.overflow_sub-msg
overflow_sub-msg c = sig_ends c.args.msg.now c.in_ok-signature.ensures

pub returns-in_err-signature : goal.returns-in_err-signature
returns-in_err-signature c = rw (carried _ c.from_residual.ensures.1) (padding_refused c.args.msg.now c.in_err-signature.ensures)

pub returns : goal.returns
returns c = padding_given c.args.msg.now c.in_ok-signature.ensures c.within.ensures
