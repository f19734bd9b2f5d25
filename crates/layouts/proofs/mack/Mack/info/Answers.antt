-- `mack::Mack::info`: the refusal that `?` hands on.
-- Assumes nothing.
use Rattle.layouts.proofs.Refused.{err_told}
use Rattle.layouts.proofs.mack.Mack.info.Goals as goal

pub returns-in_err-check_tag : goal.returns-in_err-check_tag
returns-in_err-check_tag c = err_told _ _ _ _ _ c.from_residual.ensures.1 c.in_err-check_tag.ensures
