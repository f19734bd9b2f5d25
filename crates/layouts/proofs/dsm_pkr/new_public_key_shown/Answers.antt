-- `dsm_pkr::new_public_key_shown`: the key, after its size.
-- Assumes nothing.
use Rattle.layouts.proofs.Pkr.{new_key_refused, new_key_given}
use Rattle.layouts.proofs.Refused.{carried}
use Rattle.layouts.proofs.dsm_pkr.new_public_key_shown.Goals as goal

pub returns-in_err-size : goal.returns-in_err-size
returns-in_err-size c = rw (carried _ c.from_residual.ensures.1) (new_key_refused c.args.msg.now c.in_err-size.ensures)

pub returns : goal.returns
returns c = new_key_given c.args.msg.now c.in_ok-size.ensures c.within.ensures
