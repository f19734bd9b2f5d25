-- `mack::Mack::cop`: the refusal that `?` hands on.
-- Assumes nothing.
use Rattle.layouts.proofs.Refused.{err_told}
use Rattle.layouts.proofs.mack.Mack.cop.Goals as goal

pub returns-in_err-check : goal.returns-in_err-check
returns-in_err-check c = err_told _ _ _ _ _ c.from_residual.ensures.1 c.in_err-check.ensures
