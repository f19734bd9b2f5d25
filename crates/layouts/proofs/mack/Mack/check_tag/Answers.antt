-- `mack::Mack::check_tag`: the refusal that `?` hands on.
-- Assumes nothing.
use Rattle.layouts.proofs.Tags.{tag_refused}
use Rattle.layouts.proofs.mack.Mack.check_tag.Goals as goal

pub returns-in_err-check : goal.returns-in_err-check
returns-in_err-check c = tag_refused _ _ _ _ _ _ c.from_residual.ensures.1 c.in_err-check.ensures
