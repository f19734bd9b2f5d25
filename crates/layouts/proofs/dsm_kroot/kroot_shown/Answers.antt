-- `dsm_kroot::kroot_shown`: the key, after its size.
-- Assumes nothing.
use Rattle.layouts.proofs.Kroot.{kroot_refused, kroot_given}
use Rattle.layouts.proofs.Refused.{carried}
use Rattle.layouts.proofs.dsm_kroot.kroot_shown.Goals as goal

pub returns-in_err-size : goal.returns-in_err-size
returns-in_err-size c = rw (carried _ c.from_residual.ensures.1) (kroot_refused c.args.msg.now c.in_err-size.ensures)

pub returns : goal.returns
returns c = kroot_given c.args.msg.now c.in_ok-size.ensures c.within.ensures
